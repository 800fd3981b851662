pub mod Slots
pub mod UnderWay
pub mod Rest
pub mod Rise
pub mod Rounds
