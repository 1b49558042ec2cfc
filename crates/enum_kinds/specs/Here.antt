-- What schemas say, part by part.
use Rattle.std.specs.Prelude.{◌&&◌, List, ℕ, Bool, false, is_none}
use Rattle.schema_defs.specs.Schema.{Schema, boolean, object}
use Rattle.enum_defs.specs.declared.KindSet.{KindSet}
use Rattle.enum_defs.specs.Words.{without_same, without_lists, without_named}
use Rattle.enum_defs.specs.Kinds.{meet, own_kinds, kinds_of_same}

-- what a schema leaves open without its reference
abbrev pub kinds_here : (List ℕ → KindSet) → Schema → KindSet
kinds_here refer (boolean b) = own_kinds (boolean b)
kinds_here refer (object p ss ls ns) = meet (own_kinds (object p ss ls ns)) (kinds_of_same refer ss)

-- no type, enum or const
abbrev pub lists_nothing_in : Schema → Bool
lists_nothing_in (boolean b) = false
lists_nothing_in (object p ss ls ns) = is_none p.types && is_none p.enum_values && is_none p.const_value

-- no subschemas, and no keyword of lists or of members
abbrev pub has_no_part_in : Schema → Bool
has_no_part_in (boolean b) = false
has_no_part_in (object p ss ls ns) = without_same ss && without_lists ls && without_named ns
