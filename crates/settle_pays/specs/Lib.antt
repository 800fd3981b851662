pub mod Pays
pub mod Scheduler
pub mod Actors
pub mod Drains
