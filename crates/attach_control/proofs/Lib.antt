pub mod Attaching
pub mod Detaching
pub mod InTurn
pub mod OfKind
pub mod Staying
