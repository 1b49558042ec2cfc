pub mod Typed
pub mod Written
pub mod Fit
pub mod IsTyped
pub mod Examples
