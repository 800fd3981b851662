pub mod KeyFacts
pub mod LaneFacts
pub mod MapPlaces
pub mod Moves
pub mod PlaceMoves
pub mod Places
pub mod Steps
