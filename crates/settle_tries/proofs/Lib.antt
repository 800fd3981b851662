pub mod Few
pub mod Memory
pub mod Moves
pub mod Quiet
pub mod Search
pub mod Slots
