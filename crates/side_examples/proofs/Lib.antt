pub mod Quotas
pub mod Growing
pub mod Sizes
pub mod Sides
pub mod Points
