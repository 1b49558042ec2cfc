pub mod ContainerView
pub mod MemberViews
pub mod FieldView
pub mod Alike
