pub mod Agents
pub mod BeginLaw
pub mod Evidence
pub mod HistoryLaw
pub mod StartLaw
