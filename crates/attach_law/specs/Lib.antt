pub mod Asks
pub mod Attached
pub mod Calls
pub mod Merged
pub mod Next
pub mod Shown
