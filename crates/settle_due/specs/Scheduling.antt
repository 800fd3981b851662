pub mod Acts
pub mod Firsts
pub mod Writes
