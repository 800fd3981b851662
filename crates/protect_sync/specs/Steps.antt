pub mod Pods
