use Rattle.std.proofs.Common.{◌≡◌, ◌++◌, drop}
use Rattle.evolve_defs.specs.Steps.{lost_fields}
use Rattle.evolve_ways.specs.Ways.{found_marks}
use Rattle.evolve_rows.specs.Found.{refs_view}
use Rattle.evolve_rows.specs.MarksView.{steps_view}
use Rattle.evolve_rows.proofs.marks.push_found.Given as goal

abbrev pub invariant-loop-field : goal.invariant-loop-field
invariant-loop-field l =
    (steps_view l.steps.items ++ found_marks (refs_view (drop l.field-index l.new)) (refs_view l.left.items) ≡ steps_view l.fn.steps.items ++ found_marks (refs_view l.new) (refs_view l.fn.old.items))
    × (lost_fields (refs_view (drop l.field-index l.new)) (refs_view l.left.items) ≡ lost_fields (refs_view l.new) (refs_view l.fn.old.items))
