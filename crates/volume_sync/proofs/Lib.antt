pub mod Agrees
pub mod Rows
pub mod Says
