pub mod Names
pub mod Functions
pub mod Moved
pub mod Types
