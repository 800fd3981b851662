pub mod Given
pub mod Limits
pub mod Scripts
pub mod Laws
