pub mod Redescribed
pub mod Laws
