pub mod Lines
pub mod Feed
pub mod State
pub mod Reading
