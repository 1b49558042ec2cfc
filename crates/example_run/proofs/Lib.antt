pub mod Answered
pub mod Admitted
