pub mod Counting
pub mod Each
pub mod Numbers
pub mod Sharing
