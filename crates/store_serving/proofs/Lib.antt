pub mod Feeds
pub mod Folds
pub mod Kept
