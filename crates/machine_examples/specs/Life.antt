pub mod Agents
pub mod Lives
pub mod Protection
pub mod Reclaims
pub mod Schedules
