-- The parts of a schema that is an object; a boolean has none.
use Rattle.schema_defs.specs.Schema.{Plain, Schema, boolean, object, Same, no_same, same_value, Lists, no_lists, Named, no_named, MaybeSchemas, no_list}
use Rattle.merge_defs.specs.Objects.{no_plain}

abbrev pub plain_in : Schema → Plain
plain_in (boolean b) = no_plain
plain_in (object p ss ls ns) = p

abbrev pub same_in : Schema → Same
same_in (boolean b) = no_same
same_in (object p ss ls ns) = ss

abbrev pub lists_in : Schema → Lists
lists_in (boolean b) = no_lists
lists_in (object p ss ls ns) = ls

abbrev pub named_in : Schema → Named
named_in (boolean b) = no_named
named_in (object p ss ls ns) = ns

-- ---- the lists of members

abbrev pub all_in : Same → MaybeSchemas
all_in no_same = no_list
all_in (same_value all any one none c) = all

abbrev pub any_in : Same → MaybeSchemas
any_in no_same = no_list
any_in (same_value all any one none c) = any

abbrev pub one_in : Same → MaybeSchemas
one_in no_same = no_list
one_in (same_value all any one none c) = one
