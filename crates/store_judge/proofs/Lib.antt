pub mod Judges
pub mod First
