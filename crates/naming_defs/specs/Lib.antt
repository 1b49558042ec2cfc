pub mod Derived
pub mod Names
pub mod Laws
pub mod Good
pub mod Examples
