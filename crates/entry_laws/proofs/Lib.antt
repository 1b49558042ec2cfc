pub mod Rests
pub mod Following
pub mod Ids
pub mod Both
pub mod Same
pub mod Level
pub mod Alike
pub mod Stray
