pub mod CallExamples
pub mod LicenceExamples
pub mod RuleExamples
pub mod Samples
