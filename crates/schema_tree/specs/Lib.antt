pub mod Fault
pub mod KeptName
pub mod Numbers
pub mod Document
pub use Rattle.conversion_table.specs.Conversions
