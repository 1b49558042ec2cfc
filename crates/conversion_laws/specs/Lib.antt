pub mod Keeping
pub mod Levels
pub mod LevelExamples
pub mod Ordered
