pub mod Numbers
pub mod Paths
pub mod Tables
pub mod Arguments
pub mod Sizes
pub mod Tuples
