pub mod LineResults
pub mod Meanings
pub mod NumberRows
pub mod Indexes
pub mod Faults
