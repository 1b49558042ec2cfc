-- No name stands twice among the members of an object, at each level of a value.
use Rattle.std.specs.Prelude.{◌≡◌, ⊤, false}
use Rattle.json_value.specs.Value.{Value, Items, Members, list, object, no_items, item, no_members, member, has_name}

abbrev mutual
  pub NamesDiffer : Value → Type 0
  NamesDiffer (list vs) = NamesOfItemsDiffer vs
  NamesDiffer (object ms) = MembersDiffer ms
  NamesDiffer _ = ⊤

  pub NamesOfItemsDiffer : Items → Type 0
  NamesOfItemsDiffer no_items = ⊤
  NamesOfItemsDiffer (item v vs) = NamesDiffer v × NamesOfItemsDiffer vs

  pub MembersDiffer : Members → Type 0
  MembersDiffer no_members = ⊤
  MembersDiffer (member k v ms) = (has_name k ms ≡ false) × NamesDiffer v × MembersDiffer ms
