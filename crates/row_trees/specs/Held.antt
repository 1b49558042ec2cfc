-- What variants of the program hold.
use Rattle.std.specs.Prelude.{List, map}
use Rattle.entry_defs.specs.Entry.{no_fields}
use Rattle.tree_types.specs.View.{fields_view, parts_of, tree_view}
use Rattle.row_trees.specs.declared.bodies.Held.{Held}
use Rattle.row_trees.specs.declared.bodies.Held.TheVariants as variants
use Rattle.row_trees.specs.declared.bodies.Body.{Body}
use Rattle.row_trees.specs.Build.{HeldD, nothing, held, held_fields, BodyD}

abbrev pub held_view : Held → HeldD
held_view variants.Nothing = nothing
held_view (variants.Tree t) = held (tree_view t)
held_view (variants.Fields v) = held_fields (fields_view (parts_of v.items) no_fields)

abbrev pub body_seen : Body → BodyD
body_seen b = (b.name.now, held_view b.held)

abbrev pub bodies_view : List Body → List BodyD
bodies_view bs = map body_seen bs
