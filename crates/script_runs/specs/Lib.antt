pub mod Budget
pub mod Examples
pub mod Limits
pub mod Parts
pub mod Played
pub mod Drains
pub mod Replays
pub mod Steps
