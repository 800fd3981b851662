pub mod Walking
pub mod Going
