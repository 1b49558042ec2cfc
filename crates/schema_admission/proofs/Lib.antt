pub mod Order
pub mod Numbers
pub mod Members
pub mod Measure
pub mod Views
pub mod Turns
pub mod Parts
