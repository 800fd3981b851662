pub mod Defaults
pub mod Lookups
pub mod Steps
