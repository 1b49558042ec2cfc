pub mod Longer
pub mod OwnerView
