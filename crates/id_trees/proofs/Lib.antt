pub mod Adds
pub mod Targets
pub mod Taken
