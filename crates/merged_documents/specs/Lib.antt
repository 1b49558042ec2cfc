pub mod Laws
pub mod Lawless
pub mod Examples
