pub mod Named
pub mod Passing
pub mod Steps
pub mod Volumes
