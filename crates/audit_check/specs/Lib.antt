pub mod Words
pub mod Verdicts
pub mod Laws
pub mod Steps
