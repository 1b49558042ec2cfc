pub mod Stand
pub mod Types
pub mod Items
pub mod Texts
