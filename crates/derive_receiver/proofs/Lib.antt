pub mod Walks
pub mod Same
pub mod Gone
mod Examples
