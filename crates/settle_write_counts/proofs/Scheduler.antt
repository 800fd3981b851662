pub mod Begun
pub mod Pods
pub mod Queued
