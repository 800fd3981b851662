pub mod Turns
pub mod Grown
pub mod Bytes
