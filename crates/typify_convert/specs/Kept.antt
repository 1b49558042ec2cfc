-- What is found of nodes that are converted, and a stated value that isn't read, as a space keeps it.
use Rattle.std.specs.Prelude.{◌≡◌, ℕ, List, [], Option, Some, None}
use Rattle.schema_defs.specs.Texts.{Relations}
use Rattle.schema_defs.specs.Schema.{Document}
use Rattle.json_value.specs.View.{kept_view as value_kept}
use Rattle.entry_defs.specs.Table.{Table}
use Rattle.convert_walks.specs.Tree.{Node}
use Rattle.convert_walks.specs.Told.{Note, notes_in}
use Rattle.convert_document.specs.Merges.{MergeD}
use Rattle.convert_document.specs.Unread.{At, first_kept, unread_in}
use Rattle.convert_document.specs.Keeping.{KeptD}
use Rattle.convert_document.specs.Told.{AreFine}
use Rattle.typify_convert.specs.declared.keeping.Listed.{Listed}

abbrev pub listed_view : Listed → At
listed_view u = (u.path, value_kept u.value)

-- the first, or else the second
abbrev pub or_kept : Option At → Option At → Option At
or_kept None b = b
or_kept (Some a) b = Some a

-- nothing yet, where stated values are asked by that table, and these merges are left
abbrev pub none_kept : Option Table → List MergeD → KeptD
none_kept k ms = record { notes = []; values = record { known = k; unread = None }; merges = ms }

-- no fault, the notes, and the first stated value that isn't read by the table; without one, the first that is stated
pub record FoundOf (r : Relations) (d : Document) (most n : ℕ) (k : Option Table) (ts : List Node) (notes : List Note) (first : Option At) : Type 0 where
  pub fine : AreFine r d most n ts
  pub noted : notes ≡ notes_in r d most n ts
  pub unread : first ≡ first_kept None (unread_in r k d ts)
