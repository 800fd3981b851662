pub mod Calling
pub mod Drainers
pub mod Longer
pub mod Rounds
pub mod Answers
