pub mod Integers
pub mod RowView
