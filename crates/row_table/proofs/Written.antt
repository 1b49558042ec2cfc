-- Written schemas, seen.
use Rattle.std.proofs.Common.{◌≡◌, Bool, Box, Global, rules}
use Rattle.schema_defs.specs.Schema.{boolean}
use Rattle.schema_types.specs.View.{schema_view, object_view}
use Rattle.schema_types.specs.declared.schema.Schema as tree
use Rattle.schema_types.specs.declared.schema.Schema.{the_lemmas}
use Rattle.schema_types.specs.declared.schema.SchemaObject.{SchemaObject}

pub object_seen : (b : Box SchemaObject Global) → schema_view (tree.Object b) ≡ object_view b.value
object_seen b = search (rules, the_lemmas)

pub boolean_seen : (b : Bool) → schema_view (tree.Bool b) ≡ boolean b
boolean_seen b = search (rules, the_lemmas)
