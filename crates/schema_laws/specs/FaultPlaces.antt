-- Each place that a fault tells names a value: inside the document, or inside the value of the number that is told.
use Rattle.std.specs.Prelude.{◌≡◌, ℕ, List, IsSome, Some, All, slice_get}
use Rattle.serde_json.specs.Data.{Data}
use Rattle.serde_json.specs.View.{items_of as data_items}
use Rattle.json_value.specs.Value.{Value}
use Rattle.json_value.specs.View.{value_of, items_of}
use Rattle.distinct_names.specs.Names.{NamesDiffer, NamesOfItemsDiffer}
use Rattle.schema_defs.specs.Location.{Location}
use Rattle.schema_tree.specs.Fault.{FaultD, malformed, missing_ref, external_ref, unguarded, float}
use Rattle.schema_tree.specs.Document.{HasFault}
use Rattle.schema_tree.specs.Numbers.{IsWideAt}
use Rattle.schema_laws.specs.ValueAt.{value_at}
use Rattle.schema_laws.specs.Laws.{HasReference}
use Rattle.schema_laws.specs.WideNumbers.{IsWideThere}

abbrev pub IsInside : Value → Location → Type 0
IsInside v l = IsSome (value_at l v)

-- where a document is malformed or has a float a value stands, where a reference is bad its text, and so at each place of a walk round
abbrev pub IsPlaced : Value → FaultD → Type 0
IsPlaced v (malformed l k) = IsInside v l
IsPlaced v (missing_ref l q) = HasReference v (l, q)
IsPlaced v (external_ref l q) = HasReference v (l, q)
IsPlaced v (float l) = IsInside v l
IsPlaced v (unguarded ls) = All (IsInside v) ls
IsPlaced v _ = ⊥

-- each fault of the document is told of such places
abbrev pub HasPlacedFaults : Value → Type 0
HasPlacedFaults v = (f : FaultD) → HasFault v f → IsPlaced v f

abbrev pub FaultsArePlaced : Type 0
FaultsArePlaced = (v : Value) → NamesDiffer v → HasPlacedFaults v

-- in the value of that number a number that is no i64 stands at the place
abbrev pub IsWideInside : List Data → ℕ → Location → Type 0
IsWideInside ds i l = (d : Data) × (slice_get ds i ≡ Some d) × IsWideThere (value_of d) l

-- each number that is told of the values is told so
abbrev pub HasPlacedNumbers : List Data → Type 0
HasPlacedNumbers ds = (i : ℕ) (l : Location) → IsWideAt i l ds → IsWideInside ds i l

abbrev pub NumbersArePlaced : Type 0
NumbersArePlaced = (ds : List Data) → NamesOfItemsDiffer (items_of (data_items ds)) → HasPlacedNumbers ds
