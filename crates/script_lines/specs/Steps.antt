-- What only proofs need.
pub mod Results
