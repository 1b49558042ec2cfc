pub mod Refusing
pub mod Unmarking
pub mod ByKind
pub mod InOrder
