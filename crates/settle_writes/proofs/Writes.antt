pub mod Claims
pub mod CreateLasts
pub mod Fitting
pub mod Making
pub mod Pods
pub mod Valid
pub mod Volumes
