pub mod Audited
pub mod Beside
pub mod Completed
pub mod Ends
pub mod Generated
pub mod Promised
pub mod Ranges
pub mod Refusals
