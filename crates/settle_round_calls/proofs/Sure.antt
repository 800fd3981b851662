pub mod Calls
pub mod Lasting
pub mod Left
pub mod Passes
pub mod Slots
pub mod Turns
