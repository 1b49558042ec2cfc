pub mod SettingView
pub mod Places
pub mod Names
pub mod Examples
