pub mod Read
pub mod Generated
