use Rattle.std.proofs.Common.{◌≡◌, map, length}
use Rattle.json_value.specs.View.{kept_view}
use Rattle.enum_defs.specs.Words.{all_some}
use Rattle.enum_shapes.specs.Here.{text_case_in}
use Rattle.enum_shapes.specs.View.{case_view}
use Rattle.enum_shapes.proofs.Gathered.{gathered}
use Rattle.enum_shapes.proofs.external.cases_in.Given as goal

abbrev pub invariant-loop-value : goal.invariant-loop-value
invariant-loop-value l = all_some text_case_in (map kept_view l.values) ≡ gathered text_case_in (map case_view l.cases.items) (map kept_view l.left)

abbrev pub decreases-loop-value : goal.decreases-loop-value
decreases-loop-value l = length l.left
