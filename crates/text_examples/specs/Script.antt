pub mod Samples
pub mod Lines
pub mod Refusals
pub mod Texts
pub mod Limits
