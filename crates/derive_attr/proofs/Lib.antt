pub mod NameSets
pub mod Containers
pub mod Raw
pub mod Words
pub mod Tuples
pub mod Variants
pub mod Identifiers
pub mod Fields
