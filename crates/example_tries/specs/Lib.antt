pub mod Fixed
pub mod Tried
