pub mod Fenced
pub mod Answering
