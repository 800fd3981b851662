pub mod Samples
pub mod Requests
pub mod Replies
pub mod Lines
pub mod Texts
