pub mod Asking
pub mod OnStore
pub mod Scan
pub mod Searching
