pub mod ArrayViews
pub mod Sizes
