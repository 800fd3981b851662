pub mod Awake
pub mod Epochs
pub mod Remembered
pub mod Silent
