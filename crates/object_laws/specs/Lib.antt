pub mod Given
pub mod Laws
pub mod Again
pub mod Manifests
