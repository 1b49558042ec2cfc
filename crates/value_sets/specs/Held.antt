-- What a set holds.
use Rattle.std.specs.Prelude.{ℕ, List, [], Bool, Option, Some, None, Vec, map}
use Rattle.std.specs.Global.{Global}
use Rattle.std.specs.BTreeMap.{BTreeMap, get}
use Rattle.std.specs.Ordering.{nat_cmp}
use Rattle.std.specs.List.{list_any}
use Rattle.serde_json.specs.declared.value.Value as json
use Rattle.json_value.specs.Value.{Value, same}
use Rattle.json_value.specs.View.{kept_view}
use Rattle.value_sets.specs.declared.set.ValueSet.{ValueSet}
use Rattle.value_sets.specs.Key.{key_with}

abbrev pub listed : Option (Vec json.Value Global) → List Value
listed None = []
listed (Some vs) = map kept_view vs.items

-- the values that have the key
abbrev pub at_key : BTreeMap ℕ (Vec json.Value Global) → ℕ → List Value
at_key m k = listed (get nat_cmp m k)

-- a value is in the set where one of its key is the same
abbrev pub holds : ValueSet → Value → Bool
holds s v = list_any (same v) (at_key s.by_key (key_with 0 v))
