use Rattle.std.proofs.Common.{◌≡◌, map, drop}
use Rattle.std.specs.List.{list_all}
use Rattle.enum_defs.specs.Shapes.{is_all_required}
use Rattle.enum_shapes.specs.View.{shape_view}
use Rattle.enum_shapes.proofs.adjacent.are_all_required.Given as goal

abbrev pub invariant-loop-shape : goal.invariant-loop-shape
invariant-loop-shape l = list_all is_all_required (map shape_view l.shapes) ≡ list_all is_all_required (map shape_view (drop l.shape-index l.shapes))
