-- What conversion tells of plain documents: they state no value that isn't read, and nothing refuses them but want of memory, or a failure of the judge of texts.
-- So it is of what is added of one to a space of types.
use Rattle.std.specs.Prelude.{◌≡◌, ◌⊎◌, ℕ, ◌≤◌, List, [], true, Option}
use Rattle.schema_defs.specs.Location.{Location}
use Rattle.schema_defs.specs.Texts.{Relations}
use Rattle.schema_defs.specs.Schema.{Schema, Document}
use Rattle.schema_tree.specs.Fault.{FaultD, memory}
use Rattle.entry_defs.specs.Table.{Table}
use Rattle.convert_defs.specs.Convert.{Handed}
use Rattle.convert_walks.specs.Tree.{Node}
use Rattle.convert_walks.specs.Told.{notes_in}
use Rattle.convert_trees.specs.Told.{Tells}
use Rattle.convert_trees.specs.Unread.{unread_in, unread_in_document}
use Rattle.convert_document.specs.Refused.{IsCause}
use Rattle.history_laws.specs.Added.{target_nodes, schema_nodes}
use Rattle.plain_defs.specs.Rows.{rows_within}
use Rattle.plain_defs.specs.Plain.{IsPlain}

abbrev pub PlainIsRead : Type 0
PlainIsRead = (r : Relations) (d : Document) (depth most n : ℕ) → IsPlain d depth → depth ≤ most → unread_in_document r d most n ≡ []

-- what refuses one, beside a failure of the judge of texts, is want of memory
abbrev pub PlainIsUncaused : Type 0
PlainIsUncaused = (r : Relations) (d : Document) (depth most n : ℕ) → IsPlain d depth → depth ≤ most → (f : FaultD) → IsCause r d most n f → f ≡ memory

-- ---- what comes to a space of types

-- no note, no fault but want of memory, and no stated value that isn't read, whatever is known of the table
pub record AreQuiet (r : Relations) (d : Document) (most n : ℕ) (ts : List Node) : Type 0 where
  pub notes : notes_in r d most n ts ≡ []
  pub uncaused : (f : FaultD) → Tells r d most n ts f → f ≡ memory
  pub read : (k : Option Table) → unread_in r k d ts ≡ []

-- the items that references lead to
abbrev pub PlainTargetsAreQuiet : Type 0
PlainTargetsAreQuiet = (r : Relations) (d : Document) (depth most n : ℕ) → IsPlain d depth → depth ≤ most → AreQuiet r d most n (target_nodes r d most n)

-- a row, or what may stand as an optional property
abbrev pub MayStand : Document → ℕ → Schema → Type 0
MayStand d depth s = ((rows_within d depth).row s ≡ true) ⊎ ((rows_within d depth).nullable s ≡ true)

-- one more schema, wherever it stands
abbrev pub PlainSchemasAreQuiet : Type 0
PlainSchemasAreQuiet = (r : Relations) (d : Document) (depth most n : ℕ) (at : Location) (name : Handed) (s : Schema) → MayStand d depth s → depth ≤ most → AreQuiet r d most n (schema_nodes r d most n at name s)
