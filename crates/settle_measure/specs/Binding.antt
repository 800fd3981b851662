pub mod Pays
