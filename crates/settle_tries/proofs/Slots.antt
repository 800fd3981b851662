pub mod Caching
pub mod Coming
pub mod Deciding
pub mod ForPods
pub mod Leading
pub mod Walking
