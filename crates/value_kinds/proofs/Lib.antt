pub mod Splits
pub mod Found
pub mod Graphs
pub mod Turns
