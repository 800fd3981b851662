pub mod Conditions
pub mod VolumeDecision
pub mod VolumeLaw
pub mod VolumeTable
