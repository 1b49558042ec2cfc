use Rattle.std.proofs.Common.{map, codes}
use Rattle.std.specs.Vec.Iter.{into_iter_items}
use Rattle.good_names.specs.Given.{has_value}
use Rattle.tree_names.specs.Seen.{part_view, part_bound}
use Rattle.tree_names.proofs.Steps.{Gives}
use Rattle.tree_names.proofs.identify.bound_parts.Given as goal

abbrev pub invariant-loop-part : goal.invariant-loop-part
invariant-loop-part l = Gives (has_value l.items) (codes "field") part_bound l.fn.names l.names (map part_view l.identified.items) (map part_view (into_iter_items l.part-iterator)) (map part_view l.fn.fields.items)
