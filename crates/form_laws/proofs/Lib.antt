pub mod Fields
pub mod Rules
pub mod Shapes
pub mod Inside
