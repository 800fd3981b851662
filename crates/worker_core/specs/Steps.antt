pub mod Evidence
pub mod Weights
