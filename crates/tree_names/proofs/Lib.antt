pub mod Naming
pub mod Steps
pub mod Parts
pub mod Walks
pub mod Tables
pub mod Turns
pub mod Led
