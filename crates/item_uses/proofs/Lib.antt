pub mod Gathered
pub mod Marking
pub mod ComeTo
