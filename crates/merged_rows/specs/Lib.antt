pub mod Starts
pub mod Rows
pub mod Told
pub mod Examples
