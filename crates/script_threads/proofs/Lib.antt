pub mod Computed
pub mod Counting
pub mod Doing
pub mod Hiring
