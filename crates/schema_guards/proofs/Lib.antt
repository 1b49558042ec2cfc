pub mod Inner
pub mod Guards
pub mod Collected
