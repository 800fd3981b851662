pub mod HeldCalls
pub mod Rounds
pub mod Slots
