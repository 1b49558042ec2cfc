pub mod Lists
pub mod Pairs
pub mod Lookup
pub mod Reached
pub mod Leading
pub mod Typed
pub mod Emitted
pub mod Chain
