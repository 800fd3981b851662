pub mod Order
pub mod Lived
pub mod Seats
