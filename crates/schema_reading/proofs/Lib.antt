pub mod Keywords
pub mod Lists
pub mod Parts
pub mod Schemas
pub mod Definitions
