pub mod Putting
pub mod Since
