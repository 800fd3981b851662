pub mod Lasting
pub mod Naming
pub mod Objects
