pub mod Playing
pub mod Standing
