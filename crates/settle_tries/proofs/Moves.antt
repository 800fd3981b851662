pub mod Moving
pub mod Near
pub mod Parts
pub mod Points
pub mod Sharing
pub mod Standing
