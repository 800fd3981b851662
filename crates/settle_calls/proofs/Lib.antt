pub mod Tasks
pub mod Events
pub mod Passes
pub mod Slots
