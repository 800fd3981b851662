-- What only proofs need.
pub mod Results
pub mod Numbers
pub mod Indexed
pub mod Known
