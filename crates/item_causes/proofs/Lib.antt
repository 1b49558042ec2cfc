pub mod Filtered
pub mod Placed
pub mod Outside
