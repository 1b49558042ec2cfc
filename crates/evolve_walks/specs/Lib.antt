pub mod Same
pub mod Keyed
pub mod Walking
pub mod Way
