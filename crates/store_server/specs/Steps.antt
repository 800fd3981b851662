-- For proofs alone.
pub mod Kept
