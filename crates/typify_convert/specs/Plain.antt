-- What is added of a plain document: no note comes of it, and nothing refuses it but want of memory or a failure of the judge of texts.
use Rattle.std.specs.Prelude.{◌≡◌, ◌⊎◌, ℕ, List, [], ◌∷◌, Contains, true, false, Option, Some, None}
use Rattle.schema_defs.specs.Faults.{Rises}
use Rattle.schema_defs.specs.Location.{Step, Location}
use Rattle.schema_defs.specs.Texts.{Relations}
use Rattle.schema_defs.specs.Schema.{Schema, Document}
use Rattle.schema_defs.specs.Admits.{definition_word}
use Rattle.schema_defs.specs.Children.{schema_at}
use Rattle.schema_tree.specs.Fault.{FaultD, memory, texts}
use Rattle.convert_defs.specs.Convert.{Handed}
use Rattle.convert_walks.specs.Tree.{Node}
use Rattle.convert_trees.specs.Told.{places_of_nodes}
use Rattle.history_laws.specs.Added.{target_at}
use Rattle.plain_defs.specs.Plain.{IsPlain}
use Rattle.plain_told.specs.Laws.{MayStand}
use Rattle.typify_convert.specs.Space.{History, nothing, Holds}
use Rattle.typify_convert.specs.Added.{with_targets, added}
use Rattle.typify_convert.specs.Refused.{IsRefusal}
use Rattle.typify_convert.specs.declared.space.TypeSpace.{TypeSpace}

-- The document is plain, and the schema at the location is a row of its own, or what may stand as an optional property. What references lead to has its item, and may be
-- asked for always. A part of a row needn't be a row: an option's `null` isn't one.
pub record IsPlainAt (d : Document) (depth : ℕ) (at : Location) : Type 0 where
  pub plain : IsPlain d depth
  pub row : (s : Schema) → target_at d at ≡ None → schema_at d at ≡ Some s → MayStand d depth s

-- a failure of the judge of texts, whose count rose, told at the place of one of these schemas
abbrev pub IsTextsFailure : ℕ → ℕ → List Node → FaultD → Type 0
IsTextsFailure before after ts f = (l : Location) × Contains (places_of_nodes ts) l × (f ≡ texts l) × Rises before after

-- want of memory, the fault with which the space refused before, or such a failure
abbrev pub IsRefusedPlainly : Option FaultD → ℕ → ℕ → List Node → FaultD → Type 0
IsRefusedPlainly refused before after ts f = IsRefusal refused (IsTextsFailure before after ts) f

-- the space holds what came before with no more notes, and no more stated values that aren't read
pub record AddsNoNote (before : History) (s : TypeSpace) : Type 0 where
  pub after : History
  pub holds : Holds s after
  pub notes : after.notes ≡ before.notes
  pub unread : after.unread ≡ before.unread

-- ---- whole histories

-- no note, and no stated value that isn't read
pub record IsQuiet (h : History) : Type 0 where
  pub notes : h.notes ≡ []
  pub unread : h.unread ≡ []

-- the items that references lead to, and then what is plain where it stands, by whatever name
pub data ComesPlainly (r : Relations) (d : Document) (depth n : ℕ) : History → Type 0 where
  by_targets : ComesPlainly r d depth n (with_targets r d depth n nothing)
  by_schema : (h : History) (at : Location) (name : Handed) → ComesPlainly r d depth n h → IsPlainAt d depth at → ComesPlainly r d depth n (added r d depth n at name h).0

-- such a history of a plain document is quiet: then `finish` tells no note, and refuses by want of memory or by what was refused before
abbrev pub PlainHistoriesAreQuiet : Type 0
PlainHistoriesAreQuiet = (r : Relations) (d : Document) (depth n : ℕ) → IsPlain d depth → (h : History) → ComesPlainly r d depth n h → IsQuiet h

-- the root of a plain document and each of its definitions may be added
pub record ItemsMayBeAdded (d : Document) (depth : ℕ) : Type 0 where
  pub root : IsPlainAt d depth []
  pub definition : (word name : Step) → (word ≡ definition_word false) ⊎ (word ≡ definition_word true) → IsPlainAt d depth (word ∷ name ∷ [])

abbrev pub PlainItemsMayBeAdded : Type 0
PlainItemsMayBeAdded = (d : Document) (depth : ℕ) → IsPlain d depth → ItemsMayBeAdded d depth
