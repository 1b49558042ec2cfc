pub mod Given
pub mod View
pub mod Kinds
