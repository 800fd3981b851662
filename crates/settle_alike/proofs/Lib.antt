pub mod Alike
pub mod Near
