use Rattle.std.proofs.Common.{◌≡◌, ◌++◌, drop, map}
use Rattle.convert_defs.specs.Row.{variants_parts}
use Rattle.row_findings.specs.View.{part_view, variant_view}
use Rattle.row_trees.proofs.parts.push_variants.Given as goal

abbrev pub invariant-loop-variant : goal.invariant-loop-variant
invariant-loop-variant l = map (λ p. part_view p.now) l.parts.items ++ variants_parts (map variant_view (drop l.variant-index l.variant-items)) ≡ map (λ p. part_view p.now) l.initial.parts.items ++ variants_parts (map variant_view l.variant-items)
