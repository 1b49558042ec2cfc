use Rattle.std.proofs.Common.{map, codes}
use Rattle.std.specs.Vec.Iter.{into_iter_items}
use Rattle.good_names.specs.Given.{nothing_off}
use Rattle.row_findings.specs.View.{tag_view}
use Rattle.tree_names.specs.Seen.{variant_view, variant_identified}
use Rattle.tree_names.proofs.Steps.{Gives}
use Rattle.tree_names.proofs.identify.identified_each.Given as goal

abbrev pub invariant-loop-variant : goal.invariant-loop-variant
invariant-loop-variant l = Gives nothing_off (codes "Variant") (variant_identified (tag_view l.tag)) l.fn.names l.names (map variant_view l.identified.items) (map variant_view (into_iter_items l.variant-iterator)) (map variant_view l.fn.variants.items)
