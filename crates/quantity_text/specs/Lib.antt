pub mod Grammar
pub mod Quantity
pub mod Steps
