use Rattle.std.proofs.Common.{◌≡◌}
use Rattle.evolve_ways.specs.Ways.{place_marks}
use Rattle.evolve_rows.specs.MarksView.{steps_view}
use Rattle.evolve_rows.proofs.marks.place_steps.Given as goal

abbrev pub invariant-loop-place : goal.invariant-loop-place
invariant-loop-place l = steps_view l.steps.items ≡ place_marks l.place
