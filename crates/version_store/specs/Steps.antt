pub mod Made
pub mod Metadata
pub mod Starts
