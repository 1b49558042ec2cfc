pub mod Found
pub mod Stops
pub mod Places
