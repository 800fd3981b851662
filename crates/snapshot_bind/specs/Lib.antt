pub mod Licences
pub mod Rules
pub mod SideStore
