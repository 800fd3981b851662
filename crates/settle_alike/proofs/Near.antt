pub mod Annotations
pub mod Near
pub mod Provisioning
pub mod Rows
pub mod Serving
pub mod Steps
pub mod Trying
