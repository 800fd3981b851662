pub mod ClaimDecision
pub mod ClaimLaw
pub mod ClaimTable
pub mod Conditions
