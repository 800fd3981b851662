pub mod Bounds
mod Calls
mod Machines
mod Rows
pub mod Slots
