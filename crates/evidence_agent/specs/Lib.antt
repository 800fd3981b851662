pub mod Indexed
pub mod Pods
pub mod Steps
pub mod Places
