pub mod Negations
pub mod Fates
pub mod Finishing
pub mod Listed
