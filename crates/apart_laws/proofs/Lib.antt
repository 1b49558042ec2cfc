pub mod Items
pub mod Rows
pub mod Names
pub mod Findings
pub mod Tables
