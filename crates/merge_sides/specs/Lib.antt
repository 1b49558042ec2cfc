pub mod Leaves
pub mod Met
pub mod Referring
pub mod Behind
