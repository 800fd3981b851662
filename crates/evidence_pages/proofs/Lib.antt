pub mod Absorbing
pub mod Growing
pub mod Licences
pub mod Paging
pub mod Reading
pub mod Rows
pub mod Stripped
pub mod Telling
