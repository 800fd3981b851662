pub mod Calls
pub mod Drainers
pub mod Drains
pub mod Orders
pub mod Users
pub mod Whole
