pub mod Awake
pub mod Drain
pub mod Drains
pub mod Given
pub mod Names
pub mod Settling
