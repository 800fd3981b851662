pub mod Lives
pub mod Work
pub mod Crew
