pub mod Ranked
pub mod Rows
pub mod Members
pub mod Each
pub mod Space
