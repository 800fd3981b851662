pub mod Binding
pub mod Agents
pub mod Reclaiming
pub mod Provisioning
pub mod Scheduling
