pub mod Beginning
pub mod Moving
pub mod Refusing
pub mod Standing
