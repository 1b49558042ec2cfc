pub mod Within
pub mod Finds
