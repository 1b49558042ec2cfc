pub mod Ends
pub mod EndsExamples
pub mod Examples
pub mod Plain
pub mod Properties
