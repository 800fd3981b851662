pub mod Gates
pub mod Slots
pub mod Would
