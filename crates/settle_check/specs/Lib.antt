pub mod ClaimDues
pub mod DueTables
pub mod First
pub mod Steps
pub mod VolumeDues
pub mod WorldOf
