pub mod Definitions
pub mod Listed
pub mod Merges
pub mod Examples
