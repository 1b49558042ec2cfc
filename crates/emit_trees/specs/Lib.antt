pub mod CarriedView
pub mod MannerView
pub mod Parts
