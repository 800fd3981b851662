pub mod Hired
