pub mod Views
pub mod Fronts
pub mod Metas
