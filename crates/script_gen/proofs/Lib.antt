pub mod States
pub mod Each
pub mod Drawn
