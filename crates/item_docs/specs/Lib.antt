pub mod Said
pub mod Places
pub mod Forms
pub mod FormView
pub mod Nested
pub mod Docs
pub mod Examples
