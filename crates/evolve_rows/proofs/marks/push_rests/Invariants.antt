use Rattle.std.proofs.Common.{◌≡◌, ◌++◌, drop}
use Rattle.evolve_ways.specs.Ways.{rest_marks}
use Rattle.evolve_rows.specs.Found.{refs_view}
use Rattle.evolve_rows.specs.MarksView.{steps_view}
use Rattle.evolve_rows.proofs.marks.push_rests.Given as goal

abbrev pub invariant-loop-field : goal.invariant-loop-field
invariant-loop-field l = steps_view l.steps.items ++ rest_marks (refs_view (drop l.field-index l.fields)) ≡ steps_view l.fn.steps.items ++ rest_marks (refs_view l.fields)
