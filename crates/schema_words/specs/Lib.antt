pub mod Input
pub mod Words
pub mod Said
pub mod Outcome
pub mod PlainSchemas
