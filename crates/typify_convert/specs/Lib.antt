pub mod Placing
pub mod Kept
pub mod Gathered
pub mod Space
pub mod Added
pub mod Refused
pub mod Laws
pub mod Plain
