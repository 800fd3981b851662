pub mod Allowed
pub mod Begun
pub mod Calling
pub mod Reaching
pub mod Moves
pub mod Reading
pub mod Shown
pub mod Tests
