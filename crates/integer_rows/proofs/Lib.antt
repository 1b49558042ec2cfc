pub mod Beyond
pub mod FirstKind
pub mod Steps
pub mod Whole
pub mod Between
