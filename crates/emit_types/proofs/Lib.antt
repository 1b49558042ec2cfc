pub mod Pieces
pub mod Turns
pub mod Found
pub mod Tuples
pub mod RestNames
