pub mod Reaching
pub mod Level
pub mod Marked
