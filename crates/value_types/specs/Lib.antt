pub mod Large
pub mod Levels
pub mod Paths
pub mod RowView
pub mod ShapeView
