use Rattle.std.proofs.Common.{◌+◌, map, take, codes}
use Rattle.good_names.specs.Given.{Does}
use Rattle.tree_names.specs.Seen.{part_view, parts_named, variant_view, variants_named}
use Rattle.tree_types.proofs.Sizes.{tree_size, part_size, parts_size, case_size, cases_size, rest_size}
use Rattle.tree_names.proofs.walk.+naming.Given as goal

abbrev pub invariant-named_parts-loop-part : goal.invariant-named_parts-loop-part
invariant-named_parts-loop-part l = Does (codes "Type") l.fn.names l.names (map part_view l.named.items) (parts_named (map part_view (take l.part-index l.part-items)))

abbrev pub invariant-named_variants-loop-variant : goal.invariant-named_variants-loop-variant
invariant-named_variants-loop-variant l = Does (codes "Type") l.fn.names l.names (map variant_view l.named.items) (variants_named (map variant_view (take l.variant-index l.variant-items)))

abbrev pub decreases-named_tree : goal.decreases-named_tree
decreases-named_tree l = tree_size l.from.now

abbrev pub decreases-named_box : goal.decreases-named_box
decreases-named_box l = 1 + tree_size l.from.now.value

abbrev pub decreases-named_one : goal.decreases-named_one
decreases-named_one l = 2 + tree_size l.inner.now.value

abbrev pub decreases-named_part : goal.decreases-named_part
decreases-named_part l = part_size l.from.now

abbrev pub decreases-named_parts : goal.decreases-named_parts
decreases-named_parts l = parts_size l.from.now.items

abbrev pub decreases-named_front : goal.decreases-named_front
decreases-named_front l = parts_size l.from.now.items

abbrev pub decreases-named_contents : goal.decreases-named_contents
decreases-named_contents l = 1 + parts_size l.from.now.items

abbrev pub decreases-named_variant : goal.decreases-named_variant
decreases-named_variant l = case_size l.from.now

abbrev pub decreases-named_variants : goal.decreases-named_variants
decreases-named_variants l = cases_size l.from.now.items

abbrev pub decreases-named_rest : goal.decreases-named_rest
decreases-named_rest l = rest_size l.from.now
