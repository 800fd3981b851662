pub mod Taken
pub mod Imports
