pub mod Slots
pub mod Sure
pub mod UnderWay
pub mod Rest
pub mod Rise
pub mod Rounds
