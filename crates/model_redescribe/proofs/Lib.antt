mod Counted
mod Told
pub mod Again
pub mod Agree
