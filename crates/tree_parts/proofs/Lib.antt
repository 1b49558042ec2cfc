pub mod AsItems
pub mod Characters
pub mod Holding
pub mod Leaves
pub mod Names
pub mod Pushed
pub mod TextsSeen
