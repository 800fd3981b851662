pub mod WholeKinds
pub mod History
