pub mod Bools
pub mod Groups
pub mod Forms
