pub mod Found
pub mod Layer
pub mod Supplied
pub mod Laws
pub mod Examples
