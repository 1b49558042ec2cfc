pub mod TypeView
pub mod TypedView
pub mod Names
pub mod FieldView
pub mod VariantView
pub mod ContainerView
pub mod ContainersView
