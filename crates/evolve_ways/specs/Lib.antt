pub mod Ways
pub mod Texts
pub mod Examples
