pub mod LineLists
pub mod Closings
pub mod EntryFloats
pub mod LineLaws
pub mod Puts
pub mod GoodPairs
pub mod Joined
