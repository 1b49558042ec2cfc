-- Where a value has a number that is no i64, one stands at the place that is told.
use Rattle.std.specs.Prelude.{◌≡◌, ⊤, false, Some}
use Rattle.json_value.specs.Value.{Value, number, fraction}
use Rattle.schema_defs.specs.Location.{Location}
use Rattle.schema_tree.specs.Numbers.{fits_i64, wide_place}
use Rattle.distinct_names.specs.Names.{NamesDiffer}
use Rattle.schema_laws.specs.ValueAt.{value_at}

-- a number that is no i64
abbrev pub IsWideNumber : Value → Type 0
IsWideNumber (number z) = fits_i64 z ≡ false
IsWideNumber fraction = ⊤
IsWideNumber _ = ⊥

abbrev pub IsWideThere : Value → Location → Type 0
IsWideThere v l = (w : Value) × (value_at l v ≡ Some w) × IsWideNumber w

abbrev pub WideNumbersStand : Type 0
WideNumbersStand = (v : Value) → NamesDiffer v → (l : Location) → wide_place v ≡ Some l → IsWideThere v l
