pub mod Following
pub mod Living
pub mod Seats
