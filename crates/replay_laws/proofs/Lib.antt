pub mod Printable
pub mod Drains
pub mod Settles
