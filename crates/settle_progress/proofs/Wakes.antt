pub mod Adding
pub mod Decided
pub mod Untold
pub mod Wakes
