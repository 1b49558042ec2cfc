use Rattle.std.proofs.Common.{◌≡◌, ◌++◌, drop}
use Rattle.value_models.specs.VariantView.{variants_view}
use Rattle.evolve_ways.specs.Ways.{variant_marks}
use Rattle.evolve_rows.specs.MarksView.{steps_view}
use Rattle.evolve_rows.proofs.marks.variant_steps.Given as goal

abbrev pub invariant-loop-variant : goal.invariant-loop-variant
invariant-loop-variant l = steps_view l.steps.items ++ variant_marks (variants_view (drop l.variant-index l.variants)) ≡ variant_marks (variants_view l.variants)
