pub mod AgentMoving
pub mod AgentStanding
pub mod Beginning
pub mod Moving
pub mod Standing
