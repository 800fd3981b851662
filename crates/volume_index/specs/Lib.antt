pub mod IndexPlaces
pub mod Keeping
pub mod Steps
pub mod VolumeIndex
pub mod VolumeOrders
pub mod VolumePlaces
