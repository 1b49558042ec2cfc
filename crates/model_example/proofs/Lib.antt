pub mod Exemplary
