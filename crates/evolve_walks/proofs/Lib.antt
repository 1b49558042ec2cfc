pub mod Sound
pub mod Parts
pub mod Found
pub mod Rounds
pub mod Ways
