pub mod Kinds
pub mod Claims
pub mod Rounds
pub mod Reaching
pub mod Examples
