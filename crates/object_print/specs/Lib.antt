pub mod Metadata
pub mod Parts
pub mod Volumes
pub mod Claims
pub mod Objects
pub mod Laws
