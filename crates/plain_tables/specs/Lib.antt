pub mod Among
pub mod Apart
pub mod Twice
