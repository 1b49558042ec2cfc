pub mod Marks
pub mod Carries
pub mod Objects
pub mod Lists
pub mod Folded
pub mod Maps
pub mod Subschemas
