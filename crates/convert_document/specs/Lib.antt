pub mod Note
pub mod Emitted
pub mod Levels
pub mod Unread
pub mod Refused
pub use Rattle.convert_trees.specs.Keeping
pub use Rattle.convert_trees.specs.Merges
pub use Rattle.convert_trees.specs.Told
