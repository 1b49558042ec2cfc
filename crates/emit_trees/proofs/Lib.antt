pub mod Commas
pub mod Renames
pub mod Unnamed
