-- When a value is read as a schema document, and which fault is told where it isn't: of malformed places, then references that lead nowhere, then floats, then walks round at one value, the first.
use Rattle.std.specs.Prelude.{◌≡◌, ◌⊎◌, [], true, false, Some, option_map}
use Rattle.json_value.specs.Value.{Value}
use Rattle.schema_defs.specs.declared.Setting.{Setting}
use Rattle.schema_defs.specs.declared.Setting.TheVariants.{Strict}
use Rattle.schema_defs.specs.Schema as defs
use Rattle.schema_defs.specs.Read.{document_of}
use Rattle.schema_defs.specs.Walks.{IsGuarded, IsLoop}
use Rattle.schema_faults.specs.Faults.{first, malformed_places, bad_references, float_places, is_internal}
use Rattle.schema_guards.specs.Targets.{BeginsFirst}
use Rattle.schema_types.specs.DocumentView.{document_view}
use Rattle.schema_tree.specs.declared.guarded.Document.{Document}
use Rattle.schema_tree.specs.Fault.{FaultD, memory, malformed, missing_ref, external_ref, unguarded, float}

-- the setting, the root, and the definitions by name
abbrev pub view : Document → defs.Document
view d = document_view d.parts

-- each known keyword holds what it may
abbrev pub IsWellFormed : Value → Type 0
IsWellFormed v = malformed_places v ≡ []

-- and each reference leads to the root or to a definition
abbrev pub IsResolved : Value → Type 0
IsResolved v = IsWellFormed v × (bad_references v ≡ [])

-- and numbers are whole
abbrev pub IsReadable : Value → Type 0
IsReadable v = IsResolved v × (float_places v ≡ [])

-- the value is that document under the setting, which no fault keeps from being read
pub record IsReadAs (setting : Setting) (v : Value) (d : defs.Document) : Type 0 where
  pub readable : IsReadable v
  pub read : document_of setting v ≡ Some d
  pub guarded : IsGuarded d

-- no fault keeps the value from being read, whatever the setting
abbrev pub IsAccepted : Value → Type 0
IsAccepted v = (d : defs.Document) × IsReadAs Strict v d

-- the value has that fault, none that is told before it, and no such fault at an earlier place; whatever the setting, which no fault depends on
abbrev pub HasFault : Value → FaultD → Type 0
HasFault v (malformed l k) = first (malformed_places v) ≡ Some (l, k)
HasFault v (missing_ref l q) = IsWellFormed v × (first (bad_references v) ≡ Some (l, q)) × (is_internal q ≡ true)
HasFault v (external_ref l q) = IsWellFormed v × (first (bad_references v) ≡ Some (l, q)) × (is_internal q ≡ false)
HasFault v (float l) = IsResolved v × (option_map (λ p. p.0) (first (float_places v)) ≡ Some l)
HasFault v (unguarded w) = IsReadable v × ((d : defs.Document) × (document_of Strict v ≡ Some d) × IsLoop d w × BeginsFirst d w)
HasFault v _ = ⊥

-- want of memory, or a fault that the value has
abbrev pub IsRefusal : Value → FaultD → Type 0
IsRefusal v f = (f ≡ memory) ⊎ HasFault v f
