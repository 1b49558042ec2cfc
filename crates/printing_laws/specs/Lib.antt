pub mod Parts
pub mod Laws
pub mod FromParts
pub mod Examples
