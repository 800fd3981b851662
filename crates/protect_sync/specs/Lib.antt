pub mod BeginLaw
pub mod ClaimGuards
pub mod Decisions
pub mod Evidence
pub mod Steps
pub mod VolumeGuards
