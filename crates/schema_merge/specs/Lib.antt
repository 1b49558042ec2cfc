pub mod View
pub mod Ordered
pub mod Refusals
