pub mod Histories
pub mod Seating
pub mod Ordering
