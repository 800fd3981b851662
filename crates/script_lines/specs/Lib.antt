pub mod Answers
pub mod MemberWords
pub mod Actors
pub mod Verbs
pub mod Members
pub mod Refusals
pub mod Imports
pub mod Steps
