pub mod Memories
pub mod News
pub mod NodeAgents
pub mod OpsActors
pub mod Protection
pub mod Schedulers
