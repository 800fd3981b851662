pub mod Pods
pub mod Slots
