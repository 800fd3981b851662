pub mod Afters
pub mod Alikes
pub mod Fronts
pub mod Since
pub mod Tried
pub mod Twice
