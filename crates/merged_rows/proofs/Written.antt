-- A boolean of the program stands for that boolean.
use Rattle.std.proofs.Common.{◌≡◌, Bool, rules}
use Rattle.schema_defs.specs.Schema.{boolean}
use Rattle.schema_types.specs.View.{schema_view}
use Rattle.schema_types.specs.declared.schema.Schema as tree
use Rattle.schema_types.specs.declared.schema.Schema.{the_lemmas}

pub boolean_seen : (b : Bool) → schema_view (tree.Bool b) ≡ boolean b
boolean_seen b = search (rules, the_lemmas)
