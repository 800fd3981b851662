pub mod Computed
pub mod NodeAgents
pub mod OpsActing
pub mod Protected
pub mod Scheduling
