pub mod Calls
pub mod Events
pub mod Points
pub mod Rows
pub mod Sums
