pub mod AssigningClass
pub mod Evidences
pub mod FirstSteps
pub mod Moves
