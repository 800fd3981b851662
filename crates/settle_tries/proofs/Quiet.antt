pub mod Assigning
pub mod Behind
pub mod Giving
pub mod Ops
pub mod Quiet
pub mod Taking
