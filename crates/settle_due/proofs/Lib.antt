pub mod Upkeep
pub mod Binding
pub mod Provisioning
pub mod Scheduling
pub mod Begun
