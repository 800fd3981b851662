pub mod Attached
pub mod Passing
