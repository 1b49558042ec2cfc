pub mod Follows
pub mod Homes
pub mod Items
pub mod LifetimeLoops
pub mod LifetimeSets
pub mod Lines
pub mod Serde
pub mod TreeViews
