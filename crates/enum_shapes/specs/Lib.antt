pub mod Here
pub mod View
