pub mod Shape
pub mod Seen
pub mod Pieces
