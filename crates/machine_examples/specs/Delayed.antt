pub mod Choosing
pub mod Scenes
pub mod Writing
