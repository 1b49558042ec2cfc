pub mod Views
pub mod Cases
pub mod Counts
pub mod Tagged
pub mod InOrder
pub mod Left
