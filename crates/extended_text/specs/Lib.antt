pub mod Sides
pub mod Extended
pub mod Steps
