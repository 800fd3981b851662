pub mod Mounting
pub mod Naming
