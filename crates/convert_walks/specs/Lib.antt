pub mod Spot
pub mod Merging
pub mod Tree
pub mod Told
pub mod Pages
