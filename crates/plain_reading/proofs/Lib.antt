pub mod Types
pub mod Readable
pub mod Differ
pub mod Nested
pub mod Levels
