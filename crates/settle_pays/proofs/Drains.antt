pub mod Actors
pub mod Drains
pub mod Rounds
