pub mod Doing
pub mod Saying
