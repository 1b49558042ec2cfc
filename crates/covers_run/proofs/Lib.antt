pub mod Named
pub mod Answered
pub mod Stays
