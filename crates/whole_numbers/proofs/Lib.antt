pub mod Longest
pub mod Runs
pub mod Segments
pub mod Settled
