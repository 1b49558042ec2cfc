pub mod Noted
pub mod Telling
pub mod Deep
