pub mod Rings
mod Nests
pub mod AsDocument
pub mod Plainly
