pub mod Setups
mod Seats
pub mod Replays
pub mod Threads
