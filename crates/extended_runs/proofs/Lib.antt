pub mod Noting
pub mod Resting
pub mod Growing
