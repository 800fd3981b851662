pub mod Named
pub mod Uids
pub mod Words
