pub mod Counting
pub mod Using
pub mod Steps
