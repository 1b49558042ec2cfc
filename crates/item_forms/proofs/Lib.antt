pub mod TypeForms
pub mod Seen
pub mod Rests
pub mod Named
