pub mod Asks
pub mod NewestKeys
pub mod Picks
pub mod Rows
pub mod Versioned
pub mod Written
