pub mod Laws
pub mod Conversion
