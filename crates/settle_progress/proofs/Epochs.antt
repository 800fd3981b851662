pub mod Awake
pub mod Calls
pub mod Epochs
pub mod Mounts
pub mod Remembered
pub mod Silent
