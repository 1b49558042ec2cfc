use Rattle.std.proofs.Common.{◌≡◌, ◌++◌, drop}
use Rattle.evolve_ways.specs.Ways.{variant_marks}
use Rattle.evolve_rows.specs.MarksView.{steps_view, those_view}
use Rattle.evolve_rows.proofs.marks.steps_to.Given as goal

abbrev pub invariant-loop-variant : goal.invariant-loop-variant
invariant-loop-variant l = steps_view l.steps.items ++ variant_marks (those_view (drop l.variant-index l.variants)) ≡ variant_marks (those_view l.variants)
