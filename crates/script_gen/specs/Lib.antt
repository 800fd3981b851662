pub mod Draws
pub mod Objects
pub mod Generated
