pub mod Agents
pub mod Objects
pub mod Pods
pub mod Lines
pub mod Whole
