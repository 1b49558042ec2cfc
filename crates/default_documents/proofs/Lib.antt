mod Lists
pub mod Inside
pub mod States
pub mod Rows
mod Options
pub mod Trees
pub mod Sound
