-- What the rows merge of what is converted, gathered before.
use Rattle.std.specs.Prelude.{◌≡◌, ℕ, List, []}
use Rattle.schema_defs.specs.Texts.{Relations}
use Rattle.schema_defs.specs.Schema.{Schema, Document}
use Rattle.convert_defs.specs.Convert.{Handed}
use Rattle.convert_walks.specs.Tree.{document_tree, tree_at}
use Rattle.merged_rows.specs.Starts.{spot_of}
use Rattle.merged_rows.specs.declared.start.Start.{Start}
use Rattle.convert_document.specs.Merges.{MergeD, merges_in}

-- of the document
pub record MergesAll (d : Document) (most n : ℕ) (ms : List MergeD) : Type 0 where
  pub all : (r : Relations) → ms ≡ merges_in (document_tree r d most n)

-- of a schema from a start on
pub record MergesFrom (d : Document) (most n : ℕ) (t : Start) (s : Schema) (ms : List MergeD) : Type 0 where
  pub all : (r : Relations) (h : Handed) → ms ≡ merges_in (tree_at r d most n (spot_of t [] h) s)
