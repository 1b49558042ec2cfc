pub mod Sampled
pub mod Words
