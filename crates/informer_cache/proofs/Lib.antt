pub mod Ending
pub mod Found
pub mod Kept
pub mod Rising
pub mod Seen
pub mod Stands
pub mod Together
