pub mod Own
pub mod Replaced
pub mod Free
pub mod Laws
pub mod View
