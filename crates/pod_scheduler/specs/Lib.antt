pub mod BeginLaw
pub mod Decisions
pub mod DueLaw
pub mod Evidence
pub mod Schedules
pub mod Steps
pub mod Tries
pub mod TryLaw
