pub mod Seen
pub mod Named
pub mod Parts
pub mod Gathered
pub mod Fresh
pub mod Lone
