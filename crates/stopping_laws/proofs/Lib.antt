pub mod Goods
pub mod Values
