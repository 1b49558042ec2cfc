pub mod Parts
pub mod Fields
pub mod Level
pub mod Values
