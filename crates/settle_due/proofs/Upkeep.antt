pub mod Claims
pub mod Deciding
pub mod Guards
pub mod Known
pub mod Reclaims
pub mod Volumes
