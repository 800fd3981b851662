pub mod Orders
pub mod Somes
