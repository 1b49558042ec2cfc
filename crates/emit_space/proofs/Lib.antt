pub mod Placed
pub mod Exact
pub mod Whole
