pub mod Bounds
pub mod Lowers
pub mod Measure
pub mod Small
pub mod Tries
