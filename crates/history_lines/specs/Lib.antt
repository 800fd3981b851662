pub mod Answers
pub mod Words
pub mod Members
pub mod Requests
pub mod Replies
pub mod Entries
