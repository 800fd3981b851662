pub mod Parts
pub mod Walking
pub mod Numbers
pub mod Parsing
pub mod Ranges
