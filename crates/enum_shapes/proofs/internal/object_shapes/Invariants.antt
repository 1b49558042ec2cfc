use Rattle.std.proofs.Common.{◌≡◌, map, length}
use Rattle.schema_types.specs.View.{schema_view, schemas_view}
use Rattle.enum_defs.specs.Words.{all_some}
use Rattle.enum_defs.specs.Shapes.{object_shape}
use Rattle.enum_shapes.specs.View.{shape_view}
use Rattle.enum_shapes.proofs.Gathered.{gathered}
use Rattle.enum_shapes.proofs.internal.object_shapes.Given as goal

abbrev pub invariant-loop-schema : goal.invariant-loop-schema
invariant-loop-schema l = all_some object_shape (schemas_view l.schemas) ≡ gathered object_shape (map shape_view l.shapes.items) (map schema_view l.left)

abbrev pub decreases-loop-schema : goal.decreases-loop-schema
decreases-loop-schema l = length l.left
