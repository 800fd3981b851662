pub mod All
pub mod Cache
pub mod Knowledge
pub mod Marks
pub mod Steps
