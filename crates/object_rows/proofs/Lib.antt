pub mod MemberViews
pub mod Named
pub mod Notes
pub mod Outside
