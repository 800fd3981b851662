pub mod Budget
pub mod Drains
pub mod Measured
pub mod Rounds
pub mod Selections
