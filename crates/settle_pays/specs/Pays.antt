pub mod Guards
pub mod Pays
