use Rattle.std.proofs.Common.{◌≡◌, ◌+◌, map, drop, option_map}
use Rattle.entry_space.specs.Seen.{seen}
use Rattle.entry_types.specs.View.{id_view, variant_view}
use Rattle.row_findings.specs.View.{tag_view}
use Rattle.tree_types.specs.View.{variants_view}
use Rattle.space_trees.specs.Placed.{placed_variants}
use Rattle.space_trees.specs.Leading.{ids_of}
use Rattle.space_trees.specs.Parts.{tree_seen, case_seen, placed_parts}
use Rattle.space_trees.proofs.PartSteps.{joined}
use Rattle.tree_types.proofs.Sizes.{tree_size, parts_size, cases_size}
use Rattle.space_trees.proofs.trees.+placing.Given as goal

abbrev pub decreases-place_tree : goal.decreases-place_tree
decreases-place_tree l = tree_size l.tree.now

abbrev pub decreases-place_parts : goal.decreases-place_parts
decreases-place_parts l = parts_size l.parts.now.items

abbrev pub decreases-place_first : goal.decreases-place_first
decreases-place_first l = parts_size l.parts.now.items

abbrev pub decreases-place_contents : goal.decreases-place_contents
decreases-place_contents l = 1 + parts_size l.parts.now.items

abbrev pub decreases-place_variant : goal.decreases-place_variant
decreases-place_variant l = 2 + parts_size l.parts.now.items

abbrev pub decreases-place_variants : goal.decreases-place_variants
decreases-place_variants l = cases_size l.variants.now.items

abbrev pub invariant-place_parts-loop-part : goal.invariant-place_parts-loop-part
invariant-place_parts-loop-part l =
    joined (map (option_map id_view) l.ids.items) (placed_parts (ids_of l.led) (map tree_seen (drop l.part-index l.parts.items)) (seen l.space))
    ≡ placed_parts (ids_of l.led) (map tree_seen l.parts.items) (seen l.fn.space)

abbrev pub invariant-place_variants-loop-variant : goal.invariant-place_variants-loop-variant
invariant-place_variants-loop-variant l =
    joined (map variant_view l.entries.items) (placed_variants (ids_of l.led) (variants_view (tag_view l.tag) (map case_seen (drop l.variant-index l.variants.items))) (seen l.space))
    ≡ placed_variants (ids_of l.led) (variants_view (tag_view l.tag) (map case_seen l.variants.items)) (seen l.fn.space)
