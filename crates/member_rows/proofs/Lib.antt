pub mod Beside
pub mod Notes
pub mod OwnVariants
pub mod Places
pub mod PlainNulls
pub mod TagTexts
