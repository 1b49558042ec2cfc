pub mod Sample
pub mod Document
pub mod Examples
