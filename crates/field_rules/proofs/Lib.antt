pub mod Equalities
pub mod Names
pub mod Repeats
pub mod Stores
