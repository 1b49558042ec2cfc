use Rattle.std.proofs.Common.{◌≡◌, ◌++◌, drop}
use Rattle.value_models.specs.VariantView.{variants_view}
use Rattle.evolve_ways.specs.Ways.{with_contents}
use Rattle.evolve_rows.specs.MarksView.{those_view}
use Rattle.evolve_rows.proofs.marks.with_contents.Given as goal

abbrev pub invariant-loop-variant : goal.invariant-loop-variant
invariant-loop-variant l = those_view l.picked.items ++ with_contents (variants_view (drop l.variant-index l.variants)) ≡ with_contents (variants_view l.variants)
