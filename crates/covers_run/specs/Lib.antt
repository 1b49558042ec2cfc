pub mod Page
pub mod Compares
pub mod Laws
