pub mod Ids
pub mod Laws
pub mod Examples
