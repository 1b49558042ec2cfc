pub mod Beside
pub mod Kept
pub mod Searching
pub mod Unbuilt
