pub mod Writes
pub mod Done
