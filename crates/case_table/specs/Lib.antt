pub mod Cases
pub mod Errors
pub mod Steps
