pub mod Added
pub mod Bare
pub mod Naming
pub mod Tables
