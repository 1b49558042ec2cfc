pub mod Equality
pub mod Lockstep
pub mod Lookups
pub mod Parts
