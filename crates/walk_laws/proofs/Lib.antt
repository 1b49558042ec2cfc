pub mod Unwalked
pub mod Walked
pub mod Theorem
pub mod MoreLevels
pub mod Deep
pub mod Commutes
pub mod Agreeing
pub mod Counts
