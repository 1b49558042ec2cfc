pub mod Firsts
pub use Rattle.convert_trees.proofs.Ends
pub use Rattle.convert_trees.proofs.Roots
pub use Rattle.convert_trees.proofs.Telling
