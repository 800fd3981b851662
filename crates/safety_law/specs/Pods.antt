pub mod Deletion
pub mod Tellings
