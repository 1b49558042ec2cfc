pub mod Names
pub mod Placed
pub mod Formed
pub mod Filled
pub mod Leading
pub mod Parts
