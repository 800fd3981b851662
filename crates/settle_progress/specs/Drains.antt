pub mod Drained
pub mod Fresh
pub mod Held
pub mod Rounds
pub mod Settling
