pub mod Counts
pub mod Drains
pub mod Numbers
pub mod Slots
pub mod Sum
