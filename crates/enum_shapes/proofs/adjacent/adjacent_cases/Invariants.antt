use Rattle.std.proofs.Common.{◌≡◌, map, drop}
use Rattle.enum_defs.specs.Words.{all_some}
use Rattle.enum_defs.specs.Shapes.{adjacent_case}
use Rattle.enum_shapes.specs.View.{shape_view, case_view}
use Rattle.enum_shapes.proofs.Gathered.{gathered}
use Rattle.enum_shapes.proofs.adjacent.adjacent_cases.Given as goal

abbrev pub invariant-loop-shape : goal.invariant-loop-shape
invariant-loop-shape l =
    all_some (adjacent_case l.tag l.content) (map shape_view l.shapes) ≡ gathered (adjacent_case l.tag l.content) (map case_view l.cases.items) (map shape_view (drop l.shape-index l.shapes))
