pub mod KnownPaths
pub mod Digits
pub mod Places
pub mod Lists
