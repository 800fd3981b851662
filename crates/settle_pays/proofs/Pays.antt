pub mod Alike
pub mod Calls
pub mod ClaimGuards
pub mod Entries
pub mod Rounds
pub mod Slots
pub mod VolumeGuards
