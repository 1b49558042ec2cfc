-- The one keyword of subschemas that stands, by tests.
use Rattle.std.specs.Prelude.{ℕ, ◌&&◌, List, Bool, true, false, Option, Some, None, codes, if◌then◌else◌}
use Rattle.schema_defs.specs.Schema.{MaybeSchema, no_schema, the_schema, MaybeSchemas, no_list, the_list, Document, Same, no_same, same_value}
use Rattle.convert_defs.specs.Row.{Finding}
use Rattle.convert_defs.specs.Shapes.{members_from}
use Rattle.convert_defs.specs.Table.{all_of_finding, any_of_finding, one_of_finding, not_finding}

abbrev pub is_missing : MaybeSchemas → Bool
is_missing no_list = true
is_missing (the_list ss) = false

abbrev pub is_absent : MaybeSchema → Bool
is_absent no_schema = true
is_absent (the_schema s) = false

module _ (d : Document) (name : List ℕ) where
  abbrev pub by_not : MaybeSchema → Option Finding
  by_not (the_schema s) = Some (not_finding name s)
  by_not no_schema = None

  abbrev pub by_one : MaybeSchemas → MaybeSchema → Option Finding
  by_one (the_list ss) n = if is_absent n then Some (one_of_finding d name (members_from (codes "oneOf") 0 ss)) else None
  by_one no_list n = by_not n

  abbrev pub by_any : MaybeSchemas → MaybeSchemas → MaybeSchema → Option Finding
  by_any (the_list ss) c n = if is_missing c && is_absent n then Some (any_of_finding d name (members_from (codes "anyOf") 0 ss)) else None
  by_any no_list c n = by_one c n

  abbrev pub by_all : MaybeSchemas → MaybeSchemas → MaybeSchemas → MaybeSchema → Option Finding
  by_all (the_list ss) b c n = if is_missing b && is_missing c && is_absent n then Some (all_of_finding (members_from (codes "allOf") 0 ss)) else None
  by_all no_list b c n = by_any b c n

-- the keywords, one by one
abbrev pub all_in : Same → MaybeSchemas
all_in no_same = no_list
all_in (same_value a b c n t) = a

abbrev pub any_in : Same → MaybeSchemas
any_in no_same = no_list
any_in (same_value a b c n t) = b

abbrev pub one_in : Same → MaybeSchemas
one_in no_same = no_list
one_in (same_value a b c n t) = c

abbrev pub none_in : Same → MaybeSchema
none_in no_same = no_schema
none_in (same_value a b c n t) = n

abbrev pub conditional_in : Same → Bool
conditional_in no_same = false
conditional_in (same_value a b c n t) = t
