pub mod Alike
pub mod Due
pub mod Front
