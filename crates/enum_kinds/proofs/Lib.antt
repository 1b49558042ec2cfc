pub mod Seen
pub mod Sets
pub mod Kept
pub mod Parts
pub mod Views
