pub mod Read
pub mod Caused
pub mod Spaces
