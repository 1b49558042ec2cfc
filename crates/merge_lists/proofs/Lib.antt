pub mod Paired
pub mod Clashing
pub mod Fronts
pub mod Endings
pub mod Chained
pub mod ItemViews
