-- Why a document isn't converted. A walk has at most `most` steps, and there are n levels.
use Rattle.std.specs.Prelude.{◌≡◌, ◌⊎◌, ℕ, List, [], ◌∷◌, Contains}
use Rattle.schema_defs.specs.Faults.{Rises}
use Rattle.schema_defs.specs.Location.{Location}
use Rattle.schema_defs.specs.Texts.{Relations}
use Rattle.schema_defs.specs.Schema.{Document}
use Rattle.schema_tree.specs.Fault.{FaultD, memory, texts, invalid_value}
use Rattle.convert_walks.specs.Told.{faults_of}
use Rattle.convert_walks.specs.Tree.{document_tree}
use Rattle.convert_trees.specs.Told.{places_of_nodes, Tells}
use Rattle.convert_trees.specs.Unread.{At, unread_in_document}

module _ (r : Relations) (d : Document) (most n : ℕ) where
  -- the first fault of its schemas, in the order of conversion
  abbrev pub IsFirst : FaultD → Type 0
  IsFirst f = Tells r d most n (document_tree r d most n) f

  -- where they have none, the first value that a schema states, in the same order, and that isn't read
  abbrev pub IsUnread : FaultD → Type 0
  IsUnread f = (at : At) × (more : List At) × (unread_in_document r d most n ≡ at ∷ more) × (f ≡ invalid_value at.0 at.1)

  abbrev pub IsCause : FaultD → Type 0
  IsCause f = IsFirst f ⊎ ((faults_of r d most n ≡ []) × IsUnread f)

  -- a failure of the judge of texts, whose count rose, told at the place of one of its schemas
  abbrev pub IsFailure : ℕ → ℕ → FaultD → Type 0
  IsFailure old new f = (l : Location) × Contains (places_of_nodes (document_tree r d most n)) l × (f ≡ texts l) × Rises old new

  -- want of memory, a failure of the judge of texts, or a cause
  abbrev pub IsRefusal : ℕ → ℕ → FaultD → Type 0
  IsRefusal old new f = (f ≡ memory) ⊎ (IsFailure old new f ⊎ IsCause f)
