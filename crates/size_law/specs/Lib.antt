pub mod Law
pub mod Calls
