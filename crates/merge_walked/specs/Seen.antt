-- The schema that a side stands for: on the walk beside it, or as it is.
use Rattle.std.specs.Prelude.{List, [], ◌∷◌, Bool, false, Option, Some, None, is_some}
use Rattle.schema_defs.specs.Schema.{Schema, boolean, object, Same, Lists, Named, MaybeSchema, no_schema, the_schema}
use Rattle.schema_types.specs.View.{schema_view}
use Rattle.merge_walks.specs.Carried.{Walk, on_walk}
use Rattle.merge_walked.specs.declared.side.Side.{Side}

abbrev pub on_maybe : Option Walk → Schema → Schema
on_maybe None s = s
on_maybe (Some w) s = on_walk w s

abbrev pub side_view : Side → Schema
side_view x = on_maybe x.walk (schema_view x.schema.now)

abbrev pub maybe_side_view : Option Side → MaybeSchema
maybe_side_view None = no_schema
maybe_side_view (Some x) = the_schema (side_view x)

-- whether it has a walk of its own
abbrev pub has_walk : Schema → Bool
has_walk (boolean b) = false
has_walk (object p ss ls ns) = is_some p.walk

-- on a walk, with these parts
abbrev pub with_parts : Walk → Same → Lists → Named → Schema → Schema
with_parts w tt' ms os (boolean b) = boolean b
with_parts w tt' ms os (object p ss ls ns) = object (record p { walk = Some w }) tt' ms os
