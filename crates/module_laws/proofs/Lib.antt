pub mod Joins
pub mod Signs
pub mod Printing
pub mod Attributes
pub mod Items
