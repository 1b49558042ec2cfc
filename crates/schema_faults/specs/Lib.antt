pub mod Keywords
pub mod Schemas
pub mod Faults
pub mod Table
pub mod Search
pub mod Laws
pub mod Examples
