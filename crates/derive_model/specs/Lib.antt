pub mod Items
pub mod ModuleView
pub mod VerdictView
pub mod Judging
pub mod Laws
