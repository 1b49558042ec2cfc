pub mod Stated
pub mod Laws
pub mod Examples
