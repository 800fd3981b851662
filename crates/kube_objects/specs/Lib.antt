pub mod Bindings
pub mod Keys
pub mod Sources
