pub mod Last
pub mod Names
pub mod Found
pub mod Entering
pub mod Endings
pub mod Patterns
pub mod Parts
pub mod Making
