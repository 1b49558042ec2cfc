-- The trees of the table that is made of a document whose rows may merge, with names, are formed.
use Rattle.std.specs.Prelude.{ℕ}
use Rattle.schema_defs.specs.Texts.{Relations}
use Rattle.schema_defs.specs.Schema.{Document}
use Rattle.space_trees.specs.Formed.{IsFormed}
pub use Rattle.merged_documents.specs.Laws.{plan_of}

abbrev pub PlansAreFormed : Type 0
PlansAreFormed = (r : Relations) (d : Document) (most n : ℕ) → IsFormed (plan_of r d most n)
