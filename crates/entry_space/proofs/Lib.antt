pub mod Keys
pub mod Grown
pub mod Stays
pub mod Appended
pub mod Filled
pub mod GivenUp
