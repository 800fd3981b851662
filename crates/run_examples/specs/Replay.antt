pub mod Calls
pub mod Drains
pub mod Lives
pub mod Losses
pub mod Replays
pub mod Runs
pub mod Turns
