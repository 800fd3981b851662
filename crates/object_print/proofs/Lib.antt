pub mod Shapes
pub mod ClosingVolumes
pub mod ClosingClaims
pub mod ClosingOthers
pub mod ObjectFloats
pub mod LineLaws
