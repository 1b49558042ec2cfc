pub mod Formats
pub mod Exampled
