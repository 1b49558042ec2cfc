pub mod Build
pub mod Held
