mod Cutting
pub mod Lock
