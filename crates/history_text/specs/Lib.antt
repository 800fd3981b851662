pub mod Requests
pub mod Replies
pub mod Entries
pub mod Summaries
pub mod Output
pub mod Laws
