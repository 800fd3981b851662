pub mod Beginning
pub mod Working
pub mod Steps
