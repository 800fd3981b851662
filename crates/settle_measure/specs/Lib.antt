pub mod Left
pub mod Binding
pub mod Upkeep
