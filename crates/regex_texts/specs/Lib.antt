pub mod Examples
pub mod Names
pub mod Refused
pub mod Search
pub mod Searchers
