-- The sizes of parts.
use Rattle.std.proofs.Common.{◌≡◌, ℕ, ◌+◌, ◌<◌, ◌≤◌, List, [], ◌∷◌, map, refl, sym, ap, ◌∙◌, arith}
use Rattle.serde_json.specs.declared.value.Value as json
use Rattle.json_value.specs.Value.{Value, Items, Members, no_items, item, no_members, member, value_size, items_size, members_size, values, entries}
use Rattle.json_value.specs.View.{items_of, kept_view}
use Rattle.serde_json.specs.View.{items_view}
use Rattle.value_parts.specs.Slots.{entries_size}

abbrev pub values_size : List Value → ℕ
values_size [] = 0
values_size (v ∷ vs) = value_size v + values_size vs

pub values_are : (xs : Items) → values_size (values xs) ≡ items_size xs
values_are no_items = refl
values_are (item v vs) = ap (λ n. value_size v + n) (values_are vs)

pub entries_are : (ms : Members) → entries_size (entries ms) ≡ members_size ms
entries_are no_members = refl
entries_are (member k v ms) = ap (λ n. 1 + value_size v + n) (entries_are ms)

pub values_kept : (vs : List json.Value) → values (items_of (items_view vs)) ≡ map kept_view vs
values_kept [] = refl
values_kept (v ∷ vs) = ap (λ ws. kept_view v ∷ ws) (values_kept vs)
