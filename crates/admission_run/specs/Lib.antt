pub mod Verdicts
pub mod Page
pub mod Outcome
pub mod Words
