use Rattle.std.proofs.Common.{ℕ, List, [], map, take}
use Rattle.good_names.specs.Given.{Stands}
use Rattle.row_findings.specs.View.{tag_view}
use Rattle.tree_names.specs.Seen.{variant_view, name_in}
use Rattle.tree_names.proofs.identify.wanted_of_variants.Given as goal

abbrev pub invariant-loop-variant : goal.invariant-loop-variant
invariant-loop-variant l = (prefix : List ℕ) → Stands l.names prefix [] (map (name_in (tag_view l.tag)) (map variant_view (take l.variant-index l.variant-items)))
