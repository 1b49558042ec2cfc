-- Whether the definition of a name has a reference to the root.
use Rattle.std.specs.Prelude.{ℕ, List, Bool, false, Option, Some, None}
use Rattle.schema_defs.specs.Schema.{Definition}
use Rattle.schema_defs.specs.Admits.{defined}
use Rattle.convert_defs.specs.RootReference.{has_root}

abbrev pub body_has_root : Option Definition → Bool
body_has_root None = false
body_has_root (Some e) = has_root e.body

abbrev pub named_has_root : List Definition → List ℕ → Bool
named_has_root ds n = body_has_root (defined n ds)
