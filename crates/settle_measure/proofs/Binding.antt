pub mod Alike
pub mod Binding
pub mod Claims
pub mod References
pub mod Stages
