pub mod Findings
pub mod SameEntries
pub mod Trees
pub mod Tables
