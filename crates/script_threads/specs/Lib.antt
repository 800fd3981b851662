pub mod Started
pub mod Threads
pub mod Runs
pub mod Examples
pub mod Steps
