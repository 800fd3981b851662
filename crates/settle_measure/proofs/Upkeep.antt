pub mod Erasing
pub mod Guards
pub mod Pods
pub mod Provisions
