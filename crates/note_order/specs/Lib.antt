pub mod First
pub mod Notes
