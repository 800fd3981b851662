pub mod Asks
pub mod ByUid
pub mod Listed
pub mod Lists
pub mod Shown
pub mod Stand
