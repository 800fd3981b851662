pub mod Asked
pub mod Listed
pub mod Small
pub mod Turning
