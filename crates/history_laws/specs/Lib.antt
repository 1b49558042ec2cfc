pub mod Placing
pub mod Added
pub mod Laws
