pub mod Alone
pub mod Names
pub mod Ordered
pub mod Runs
pub mod Weights
