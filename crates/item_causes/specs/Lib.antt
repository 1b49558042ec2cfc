pub mod Newtypes
pub mod Causes
