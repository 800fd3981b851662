pub mod Beginnings
pub mod Dues
pub mod EraseMoves
pub mod Evidences
pub mod ProvisionMoves
