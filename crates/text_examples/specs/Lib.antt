pub mod Gen
pub mod History
pub mod Printable
pub mod Script
