pub mod Fitting
pub mod Enough
pub mod Examples
