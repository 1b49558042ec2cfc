mod Apart
mod Walked
pub mod Bindable
