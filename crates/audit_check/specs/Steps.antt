-- For proofs alone.
pub mod Noted
pub mod Judged
