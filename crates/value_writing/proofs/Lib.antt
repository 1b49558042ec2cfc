pub mod Parts
pub mod Turns
pub mod Loops
pub mod Lists
