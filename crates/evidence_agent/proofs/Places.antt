pub mod Hearing
pub mod Order
pub mod Putting
pub mod Since
pub mod Uses
