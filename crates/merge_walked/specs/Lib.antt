pub mod Seen
pub mod Longest
