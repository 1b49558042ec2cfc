pub mod Given
pub mod At
pub mod Choices
pub mod SettingView
