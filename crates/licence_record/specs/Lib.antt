pub mod Defaulted
pub mod Judged
