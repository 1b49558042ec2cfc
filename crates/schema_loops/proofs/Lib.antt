pub mod Graphs
pub mod Levels
pub mod Ways
pub mod Rounds
