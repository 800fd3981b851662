pub mod Kept
pub mod Works
pub mod Walks
pub mod Placed
pub mod Steps
