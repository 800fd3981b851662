pub mod Entries
pub mod RunFacts
pub mod RoundFacts
pub mod DrainFacts
pub mod NewFacts
pub mod Resting
pub mod Answers
