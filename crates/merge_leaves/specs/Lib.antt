pub mod View
pub mod Keep
pub mod Sizes
