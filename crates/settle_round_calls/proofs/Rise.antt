pub mod Devices
pub mod Rising
pub mod Scheduling
pub mod Volumes
pub mod Writes
