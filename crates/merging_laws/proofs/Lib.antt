pub mod Rows
pub mod Standing
pub mod Forms
pub mod Whole
