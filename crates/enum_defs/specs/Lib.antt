pub mod Words
pub mod Shapes
pub mod Kinds
pub mod Exclusive
pub mod Laws
pub mod Build
pub mod ExamplesOfShapes
pub mod ExamplesOfKinds
