pub mod Digits
pub mod Ended
pub mod Members
pub mod Modes
pub mod Places
pub mod Scanned
pub mod Unread
