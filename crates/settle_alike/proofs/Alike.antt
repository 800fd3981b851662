pub mod Binding
pub mod Calls
pub mod Dues
pub mod Equal
pub mod Pods
pub mod Rows
