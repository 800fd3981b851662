-- What only proofs need.
pub mod Sides
