pub mod Epochs
pub mod Wakes
pub mod Rounds
pub mod Agents
pub mod Drains
