pub mod BeginLaw
pub mod Evidence
pub mod FirstSteps
pub mod KindLaw
pub mod Machines
pub mod ReadLaw
