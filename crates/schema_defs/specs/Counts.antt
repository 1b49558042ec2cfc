-- How many schemas a document has, and how many constraints a schema has at least.
use Rattle.std.specs.Prelude.{ℕ, ◌+◌, max, nat_le, List, [], ◌∷◌, Bool, true, false, Option, Some, None, is_some, IsTrue, if◌then◌else◌}
use Rattle.schema_defs.specs.Schema.{Numbers, Texts, ListRules, MemberRules, Plain, Schema, boolean, object, Same, no_same, same_value, Lists, no_lists, lists, Named, no_named, named, MaybeSchema, no_schema, the_schema, MaybeSchemas, no_list, the_list, Schemas, no_more, schema, Places, no_items, each_item, by_place, Properties, no_properties, property, Definition, Document}

-- ---- nodes

-- the schemas in a schema, itself and booleans included
abbrev mutual
  pub schema_nodes : Schema → ℕ
  schema_nodes (boolean b) = 1
  schema_nodes (object p ss ls ns) = 1 + same_nodes ss + lists_nodes ls + named_nodes ns

  pub same_nodes : Same → ℕ
  same_nodes no_same = 0
  same_nodes (same_value all any one none conditional) = maybe_list_nodes all + maybe_list_nodes any + maybe_list_nodes one + maybe_nodes none

  pub lists_nodes : Lists → ℕ
  lists_nodes no_lists = 0
  lists_nodes (lists places rest contains rules) = places_nodes places + maybe_nodes rest + maybe_nodes contains

  pub named_nodes : Named → ℕ
  named_nodes no_named = 0
  named_nodes (named props patterns rest names rules) = properties_nodes props + properties_nodes patterns + maybe_nodes rest + maybe_nodes names

  pub maybe_nodes : MaybeSchema → ℕ
  maybe_nodes no_schema = 0
  maybe_nodes (the_schema s) = schema_nodes s

  pub maybe_list_nodes : MaybeSchemas → ℕ
  maybe_list_nodes no_list = 0
  maybe_list_nodes (the_list ss) = schemas_nodes ss

  pub schemas_nodes : Schemas → ℕ
  schemas_nodes no_more = 0
  schemas_nodes (schema s ss) = schema_nodes s + schemas_nodes ss

  pub places_nodes : Places → ℕ
  places_nodes no_items = 0
  places_nodes (each_item s) = schema_nodes s
  places_nodes (by_place ss) = schemas_nodes ss

  pub properties_nodes : Properties → ℕ
  properties_nodes no_properties = 0
  properties_nodes (property k s ps) = schema_nodes s + properties_nodes ps

abbrev pub definitions_nodes : List Definition → ℕ
definitions_nodes [] = 0
definitions_nodes (e ∷ es) = schema_nodes e.body + definitions_nodes es

-- the schemas at all locations of a document
abbrev pub nodes : Document → ℕ
nodes d = schema_nodes d.root + definitions_nodes d.definitions

-- ---- constraints: the keywords that are no annotation and hold no definitions

abbrev pub one_if : Bool → ℕ
one_if b = if b then 1 else 0

abbrev pub given : {A : Type 0} → Option A → ℕ
given o = one_if (is_some o)

abbrev pub is_list : MaybeSchemas → Bool
is_list no_list = false
is_list (the_list ss) = true

abbrev pub is_schema : MaybeSchema → Bool
is_schema no_schema = false
is_schema (the_schema s) = true

abbrev pub has_places : Places → Bool
has_places no_items = false
has_places (each_item s) = true
has_places (by_place ss) = true

abbrev pub has_properties : Properties → Bool
has_properties no_properties = false
has_properties (property k s ps) = true

abbrev pub is_filled : {A : Type 0} → List A → Bool
is_filled [] = false
is_filled (x ∷ xs) = true

-- a part that is there has one keyword at least, though nothing may show which
abbrev pub numbers_count : Option Numbers → ℕ
numbers_count None = 0
numbers_count (Some n) = max 1 (given n.multiple_of + given n.maximum + given n.exclusive_maximum + given n.minimum + given n.exclusive_minimum)

abbrev pub texts_count : Option Texts → ℕ
texts_count None = 0
texts_count (Some t) = max 1 (given t.max_length + given t.min_length + one_if (is_filled t.patterns))

abbrev pub plain_count : Plain → ℕ
plain_count p =
    given p.const_value + given p.types + given p.format + given p.enum_values + given p.reference + numbers_count p.numbers + texts_count p.texts

-- `if`, `then` and `else` count as one
abbrev pub same_count : Same → ℕ
same_count no_same = 0
same_count (same_value all any one none conditional) =
    max 1 (one_if (is_list all) + one_if (is_list any) + one_if (is_list one) + one_if (is_schema none) + one_if conditional)

abbrev pub list_rules_count : ListRules → ℕ
list_rules_count c = given c.max_items + given c.min_items + given c.unique_items

abbrev pub lists_count : Lists → ℕ
lists_count no_lists = 0
lists_count (lists places rest contains rules) = max 1 (one_if (has_places places) + one_if (is_schema rest) + one_if (is_schema contains) + list_rules_count rules)

abbrev pub member_rules_count : MemberRules → ℕ
member_rules_count c = given c.max_properties + given c.min_properties + one_if (is_filled c.required)

abbrev pub named_count : Named → ℕ
named_count no_named = 0
named_count (named props patterns rest names rules) =
    max 1 (one_if (has_properties props) + one_if (has_properties patterns) + one_if (is_schema rest) + one_if (is_schema names) + member_rules_count rules)

-- the fewest constraints with which the schema can have been written: empty names and lists don't show whether their keyword stood
abbrev pub least_constraints : Schema → ℕ
least_constraints (boolean b) = 0
least_constraints (object p ss ls ns) = plain_count p + same_count ss + lists_count ls + named_count ns

abbrev pub HasConstraint : Schema → Type 0
HasConstraint s = IsTrue (nat_le 1 (least_constraints s))
