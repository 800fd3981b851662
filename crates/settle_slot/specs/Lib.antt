pub mod Told
pub mod Slot
