pub mod Attached
pub mod Behind
pub mod Passing
