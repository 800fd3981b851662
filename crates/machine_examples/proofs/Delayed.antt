pub mod Choosing
pub mod Computing
pub mod Writing
