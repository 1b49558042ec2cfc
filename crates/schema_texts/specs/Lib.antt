pub mod Groups
pub mod Table
pub mod Failing
pub mod Several
pub mod Examples
