pub mod Lasting
pub mod Valid
pub mod Writes
