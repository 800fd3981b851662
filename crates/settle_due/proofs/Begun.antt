pub mod Binding
pub mod Claims
pub mod Guards
pub mod Ops
pub mod Passing
pub mod Pods
pub mod Seeing
pub mod Volumes
