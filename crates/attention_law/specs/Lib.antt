pub mod Begun
pub mod Diligence
pub mod Played
pub mod Queues
pub mod Resting
pub mod Showing
