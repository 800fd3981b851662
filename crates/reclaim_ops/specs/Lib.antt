pub mod BeginLaw
pub mod Decisions
pub mod DueLaw
pub mod Erasures
pub mod Evidence
pub mod Provisions
pub mod Steps
