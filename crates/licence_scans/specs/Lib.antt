pub mod Following
pub mod Found
pub mod Keyed
pub mod Last
