pub mod Defaulting
pub mod Itself
pub mod Judging
