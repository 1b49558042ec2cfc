pub mod Parts
pub mod Views
pub mod Does
pub mod HalfViews
pub mod Kept
