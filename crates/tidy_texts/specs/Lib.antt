pub mod Tidy
pub mod Comment
pub mod Examples
