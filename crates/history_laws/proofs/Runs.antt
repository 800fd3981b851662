mod Lists
pub mod Objects
mod Outcomes
mod Devices
mod Watched
pub mod Effects
mod Told
mod Writes
pub mod Asking
pub mod Texts
pub mod Runs
