pub mod Alike
pub mod Answered
