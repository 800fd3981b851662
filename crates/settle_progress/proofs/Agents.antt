pub mod Finishing
pub mod First
pub mod Lasting
pub mod Mounting
pub mod Points
pub mod Rounds
