pub mod Manners
pub mod Contents
pub mod Loops
pub mod Written
pub mod Made
