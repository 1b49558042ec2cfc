pub mod Routes
pub mod Trails
