pub mod Syntax
pub mod View
pub mod Item
pub mod Metas
