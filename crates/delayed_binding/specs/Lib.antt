pub mod ChoiceLaw
pub mod Choices
pub mod Steps
pub mod WriteLaw
pub mod Writes
