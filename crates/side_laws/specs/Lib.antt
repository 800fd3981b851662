pub mod Laws
pub mod Mirrors
pub mod Fair
