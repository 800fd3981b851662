pub mod Actor
pub mod Binder
pub mod Delayed
pub mod Guard
pub mod Life
pub mod Reclaim
pub mod Schedule
