pub mod Seats
pub mod Lines
pub mod Users
pub mod Crew
pub mod Kinds
pub mod Examples
pub mod Steps
