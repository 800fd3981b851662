pub mod Asking
pub mod Computed
pub mod Dealing
pub mod Using
