-- For proofs alone.
pub mod Judged
