pub mod Bools
pub mod Cuts
pub mod Identifiers
pub mod Numbers
pub mod Parts
pub mod Addresses
pub mod Tables
