pub mod Scheduler
pub mod Rounds
pub mod Ops
pub mod Agents
