pub mod Classes
pub mod Codes
pub mod Tokens
pub mod Kept
