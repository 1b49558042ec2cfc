pub mod View
pub mod DocumentView
pub mod Shallow
pub mod Same
pub mod Place
pub mod Laws
