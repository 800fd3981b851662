pub mod Mounts
pub mod Shown
