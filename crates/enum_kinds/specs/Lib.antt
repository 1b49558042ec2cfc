pub mod Here
pub mod Kept
