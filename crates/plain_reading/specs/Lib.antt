pub mod Nesting
pub mod Laws
