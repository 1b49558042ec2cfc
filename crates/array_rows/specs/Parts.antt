-- Keywords of lists, part by part.
use Rattle.std.specs.Prelude.{◌||◌, Bool, None, is_some}
use Rattle.schema_defs.specs.Schema.{Lists, no_lists, lists, ListRules, MaybeSchema, no_schema, Places, no_items}
use Rattle.convert_defs.specs.Owners.{is_true, above_zero}

abbrev pub no_rules : ListRules
no_rules = record { max_items = None; min_items = None; unique_items = None }

abbrev pub rules_in : Lists → ListRules
rules_in no_lists = no_rules
rules_in (lists places rest contains rules) = rules

abbrev pub places_in : Lists → Places
places_in no_lists = no_items
places_in (lists places rest contains rules) = places

abbrev pub rest_in : Lists → MaybeSchema
rest_in no_lists = no_schema
rest_in (lists places rest contains rules) = rest

abbrev pub contains_in : Lists → MaybeSchema
contains_in no_lists = no_schema
contains_in (lists places rest contains rules) = contains

-- sizes or no equal items, which are noted
abbrev pub is_bounded : ListRules → Bool
is_bounded c = is_true c.unique_items || above_zero c.min_items || is_some c.max_items
