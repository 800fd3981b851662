pub mod Reading
pub mod Refusing
pub mod Whole
pub mod Limiting
