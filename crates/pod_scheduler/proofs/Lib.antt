pub mod Allowed
pub mod Begun
pub mod Dues
pub mod Moves
pub mod Present
pub mod Tried
