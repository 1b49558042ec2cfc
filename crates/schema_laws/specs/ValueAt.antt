-- The value that stands at a location of a JSON value (RFC 6901): a step is the name of a member of an object, or the digits of a place of a list.
use Rattle.std.specs.Prelude.{ℕ, suc, [], ◌∷◌, Option, Some, None, option_and_then, bytes_eq, if◌then◌else◌}
use Rattle.json_value.specs.Value.{Value, Items, list, object, no_items, item, member_at}
use Rattle.schema_defs.specs.Location.{Step, Location, place}

-- the item whose place, counted from i, the step writes
abbrev pub item_at : Step → ℕ → Items → Option Value
item_at k i no_items = None
item_at k i (item v vs) = if bytes_eq k (place i) then Some v else item_at k (suc i) vs

abbrev pub part_at : Step → Value → Option Value
part_at k (list vs) = item_at k 0 vs
part_at k (object ms) = member_at k ms
part_at k _ = None

abbrev pub value_at : Location → Value → Option Value
value_at [] v = Some v
value_at (k ∷ ks) v = option_and_then (value_at ks) (part_at k v)
