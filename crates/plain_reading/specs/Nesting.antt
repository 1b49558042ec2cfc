-- How deep lists and objects stand in one another in a value.
use Rattle.std.specs.Prelude.{ℕ, suc, max}
use Rattle.json_value.specs.Value.{Value, Items, Members, list, object, no_items, item, no_members, member}

abbrev mutual
  pub nesting : Value → ℕ
  nesting (list vs) = suc (items_nesting vs)
  nesting (object ms) = suc (members_nesting ms)
  nesting _ = 0

  pub items_nesting : Items → ℕ
  items_nesting no_items = 0
  items_nesting (item v vs) = max (nesting v) (items_nesting vs)

  pub members_nesting : Members → ℕ
  members_nesting no_members = 0
  members_nesting (member k v ms) = max (nesting v) (members_nesting ms)
