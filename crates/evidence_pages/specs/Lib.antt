pub mod Indexed
pub mod Keyed
pub mod Parts
