pub mod Followed
pub mod Owners
pub mod Rules
pub mod Targets
pub mod Unread
