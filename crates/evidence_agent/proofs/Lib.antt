pub mod Paging
pub mod Sight
pub mod Places
