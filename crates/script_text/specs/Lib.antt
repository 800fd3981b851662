pub mod Said
pub mod LineReaders
pub mod Grammar
pub mod Steps
