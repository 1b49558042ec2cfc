pub mod Print
pub mod PrintPredicates
