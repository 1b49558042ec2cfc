pub mod Filters
pub mod Euclid
pub mod Patterns
pub mod Listed
pub mod Rising
pub mod Seen
