pub mod Best
pub mod Claims
pub mod Matches
pub mod NextWrites
