pub mod Decoding
pub mod Lists
pub mod Options
