pub mod AgentEvidences
pub mod AgentMoves
pub mod Beginnings
pub mod Evidences
pub mod Moves
