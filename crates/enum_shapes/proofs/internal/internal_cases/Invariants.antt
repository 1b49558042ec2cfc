use Rattle.std.proofs.Common.{◌≡◌, map, drop}
use Rattle.enum_defs.specs.Words.{all_some}
use Rattle.enum_defs.specs.Shapes.{internal_case}
use Rattle.enum_shapes.specs.View.{shape_view, internal_case_view}
use Rattle.enum_shapes.proofs.Gathered.{gathered}
use Rattle.enum_shapes.proofs.internal.internal_cases.Given as goal

abbrev pub invariant-loop-shape : goal.invariant-loop-shape
invariant-loop-shape l = all_some (internal_case l.tag) (map shape_view l.shapes) ≡ gathered (internal_case l.tag) (map internal_case_view l.cases.items) (map shape_view (drop l.shape-index l.shapes))
