pub mod Held
pub mod Knowing
pub mod Slots
pub mod Would
