pub mod Drains
pub mod Nodes
pub mod Objects
