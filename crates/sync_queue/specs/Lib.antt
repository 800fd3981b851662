pub mod After
pub mod Steps
pub mod Work
