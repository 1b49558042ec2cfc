use Rattle.std.proofs.Common.{◌≡◌, map, drop}
use Rattle.enum_defs.specs.Shapes.{is_constant}
use Rattle.enum_shapes.specs.View.{shape_view}
use Rattle.enum_shapes.proofs.adjacent.is_constant.Given as goal

abbrev pub invariant-loop-shape : goal.invariant-loop-shape
invariant-loop-shape l = is_constant (map shape_view l.shapes) l.name ≡ is_constant (map shape_view (drop l.shape-index l.shapes)) l.name
