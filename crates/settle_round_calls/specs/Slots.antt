pub mod Costs
pub mod Slots
