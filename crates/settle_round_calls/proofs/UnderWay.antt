pub mod AgentReads
pub mod Binding
pub mod Counts
pub mod Ending
pub mod Scheduling
pub mod Walk
