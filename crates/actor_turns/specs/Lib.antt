pub mod Fates
pub mod Parts
pub mod Calls
pub mod Lives
pub mod Diligent
pub mod Steps
