pub mod Merged
pub mod Sides
pub mod Answers
pub mod Within
pub mod Grown
