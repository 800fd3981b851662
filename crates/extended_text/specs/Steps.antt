-- What only proofs need.
pub mod Read
