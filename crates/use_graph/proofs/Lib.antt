pub mod Ways
pub mod Rounds
pub mod Ending
pub mod Tables
