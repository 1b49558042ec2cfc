pub mod Begun
pub mod Feeds
pub mod Growing
pub mod LineLists
pub mod Examples
