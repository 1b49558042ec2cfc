pub mod Steps
pub mod Shapes
pub mod Added
pub mod Reached
pub mod Views
pub mod RuleLaws
