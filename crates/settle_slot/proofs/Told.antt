pub mod Allowed
pub mod Exact
pub mod Knowing
pub mod Staying
pub mod Telling
