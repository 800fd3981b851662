pub mod Beginnings
pub mod Evidences
pub mod Moves
pub mod Refusals
