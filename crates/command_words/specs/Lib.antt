pub mod Grammar
pub mod Examples
pub mod Steps
