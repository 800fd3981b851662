pub mod Fields
pub mod Writes
pub mod Kept
pub mod Law
pub mod Examples
pub mod Runs
pub mod MoreRuns
