pub mod Leaving
pub mod Walking
pub mod Users
pub mod Reading
pub mod Keeping
