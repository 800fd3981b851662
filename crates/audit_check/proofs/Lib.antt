pub mod OneRule
pub mod Verdicts
pub mod Breaks
pub mod Judged
pub mod Noted
