pub mod Edits
pub mod IndexEdits
pub mod Scan
pub mod VolumePlaces
