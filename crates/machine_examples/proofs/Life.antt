pub mod Computed
pub mod Counted
pub mod Mounting
pub mod Protected
pub mod Reclaimed
pub mod Scheduling
