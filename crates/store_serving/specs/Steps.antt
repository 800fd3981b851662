-- For proofs alone.
pub mod Going
