pub mod Agrees
pub mod Assigned
pub mod Matches
pub mod Rows
pub mod Says
