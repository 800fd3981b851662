pub mod Begun
pub mod Starts
pub mod Tasks
pub mod Works
