pub mod Allowed
pub mod Begun
pub mod Gets
pub mod Histories
pub mod Licensed
pub mod Moves
pub mod Starts
