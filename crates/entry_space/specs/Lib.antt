pub mod Keys
pub mod Entered
pub mod Seen
pub mod Laws
