pub mod Choices
pub mod Scan
pub mod Search
