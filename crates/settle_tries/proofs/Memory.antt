pub mod Aside
pub mod Memory
pub mod Reaching
pub mod Selected
pub mod Slot
pub mod Told
