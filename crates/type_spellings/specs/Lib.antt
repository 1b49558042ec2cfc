pub mod Types
pub mod Spellings
