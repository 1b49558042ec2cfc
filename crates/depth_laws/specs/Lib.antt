pub mod Steps
pub mod Laws
pub mod Worked
pub mod Cycles
pub mod Standing
pub mod Leading
pub mod Inside
