pub mod Tests
pub mod Says
pub mod KindsKept
pub mod Constants
pub mod ObjectShapes
pub mod Exclusive
pub mod Spare
pub mod Weights
