pub mod Asking
pub mod Scheduling
