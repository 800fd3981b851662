pub mod CallExamples
pub mod Fair
pub mod Finds
pub mod Known
pub mod Law
pub mod LicenceExamples
pub mod RuleExamples
pub mod Steps
