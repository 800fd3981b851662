pub mod Costs
pub mod Ending
pub mod Held
pub mod Lasting
pub mod Near
pub mod Objects
pub mod Ops
pub mod Rounds
