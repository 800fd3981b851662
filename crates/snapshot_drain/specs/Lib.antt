pub mod Alone
pub mod Drains
pub mod Orders
pub mod Runs
