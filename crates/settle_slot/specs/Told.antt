pub mod Exact
pub mod Knowing
pub mod Telling
