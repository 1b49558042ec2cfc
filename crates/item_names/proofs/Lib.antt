pub mod EnteredNames
pub mod Counted
pub mod Knows
