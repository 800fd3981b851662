pub mod Calling
pub mod Diligent
pub mod Held
pub mod Lived
pub mod Lives
pub mod Since
pub mod Stepping
pub mod Turning
