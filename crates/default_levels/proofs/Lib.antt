pub mod Pairs
pub mod Related
pub mod Stays
pub mod Endless
pub mod Enough
