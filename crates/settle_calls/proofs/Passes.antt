pub mod First
pub mod Given
pub mod Reaching
pub mod Second
pub mod Told
