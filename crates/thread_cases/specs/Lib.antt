pub mod Works
pub mod Lock
