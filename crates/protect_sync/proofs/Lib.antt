pub mod Allowed
pub mod Begun
pub mod Moves
pub mod Scanning
