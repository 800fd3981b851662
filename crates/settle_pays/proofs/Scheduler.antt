pub mod Open
pub mod Paying
pub mod Taking
