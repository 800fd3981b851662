mod Costs
mod Covered
mod Deciding
pub mod Slots
mod Spending
