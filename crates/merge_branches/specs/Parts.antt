-- Subschemas as lists.
use Rattle.std.specs.Prelude.{List, [], ◌∷◌}
use Rattle.schema_defs.specs.Schema.{Schema, Same, no_same, same_value, MaybeSchema, no_schema, the_schema, MaybeSchemas, no_list, the_list, schema_list}

abbrev pub listed_or_none : MaybeSchemas → List Schema
listed_or_none no_list = []
listed_or_none (the_list ss) = schema_list ss

abbrev pub some_listed : MaybeSchema → List Schema
some_listed no_schema = []
some_listed (the_schema s) = s ∷ []

abbrev pub all_listed : Same → List Schema
all_listed no_same = []
all_listed (same_value all any one none c) = listed_or_none all

abbrev pub none_listed : Same → List Schema
none_listed no_same = []
none_listed (same_value all any one none c) = some_listed none

abbrev pub any_listed : Same → MaybeSchemas
any_listed no_same = no_list
any_listed (same_value all any one none c) = any

abbrev pub one_listed : Same → MaybeSchemas
one_listed no_same = no_list
one_listed (same_value all any one none c) = one
