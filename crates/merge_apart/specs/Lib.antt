pub mod Aside
pub mod View
