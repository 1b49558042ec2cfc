use Rattle.std.proofs.Common.{◌≡◌, ◌++◌, drop}
use Rattle.evolve_ways.specs.Ways.{each_rest, rest_marks}
use Rattle.evolve_rows.specs.Found.{refs_view}
use Rattle.evolve_rows.specs.MarksView.{steps_view}
use Rattle.evolve_rows.proofs.marks.push_held.Given as goal

abbrev pub invariant-loop-rest : goal.invariant-loop-rest
invariant-loop-rest l = steps_view l.steps.items ++ each_rest (rest_marks (refs_view l.held)) (refs_view (drop l.rest-index l.rests)) ≡ steps_view l.fn.steps.items ++ each_rest (rest_marks (refs_view l.held)) (refs_view l.rests)
