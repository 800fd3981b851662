pub mod Creating
pub mod Erasing
pub mod Providing
