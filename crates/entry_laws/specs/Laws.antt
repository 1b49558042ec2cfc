-- What an entry with an id takes is what its form takes, and what each tree takes that stands there.
use Rattle.std.specs.Prelude.{◌≡◌, ℕ, ◌+◌, Bool, false, Some, None}
use Rattle.json_value.specs.Value.{Value}
use Rattle.schema_defs.specs.Texts.{Relations}
use Rattle.model_defs.specs.Layer.{Parts}
use Rattle.entry_defs.specs.Entry.{Target, Entry}
use Rattle.entry_defs.specs.Layer.{Judge}
use Rattle.entry_defs.specs.Space.{Id, EntryAt, Space, entry_at}
use Rattle.entry_defs.specs.Table.{Table, allowed}
use Rattle.entry_defs.specs.Takes.{takes, takes_within}
use Rattle.space_defs.specs.Held.{Stands, HoldsTable}
use Rattle.entry_laws.specs.Ids.{form_at, table_at, takes_at}

-- where more references may be followed at one value, an entry takes what it took, whether items reach themselves or not
abbrev pub AllowedAreEnough : Type 0
AllowedAreEnough = (t : Table) (r : Relations) (v : Value) (ps : Parts Judge) (k : ℕ) (e : Entry) → takes_within t r v ps (k + allowed t) e ≡ takes_within t r v ps (allowed t) e

-- an id takes what the form there takes, and nothing where no entry is
pub record IdsTakeForms : Type 0 where
  pub there : (space : Space) (r : Relations) (i : Id) (x : EntryAt) → entry_at space i ≡ Some x → (v : Value) → takes_at space r i v ≡ takes (table_at space) r (form_at x) v
  pub nowhere : (space : Space) (r : Relations) (i : Id) → entry_at space i ≡ None → (v : Value) → takes_at space r i v ≡ false

-- of a table that a space holds each tree takes what its id takes
abbrev pub IdsTakeTrees : Type 0
IdsTakeTrees =
    (leads : Target → Id → Bool) (space : Space) (t : Table) → HoldsTable leads space t
    → (r : Relations) (e : Entry) (i : Id) → Stands leads space e i → (v : Value) → takes t r e v ≡ takes_at space r i v
