pub mod First
pub mod Texts
