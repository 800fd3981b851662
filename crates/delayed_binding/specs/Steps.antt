pub mod Alike
pub mod Counts
pub mod Marks
pub mod Nth
pub mod Places
pub mod Scans
pub mod Sharing
