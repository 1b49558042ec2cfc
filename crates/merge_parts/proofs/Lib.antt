pub mod Steps
pub mod Faults
pub mod Loops
pub mod Chains
