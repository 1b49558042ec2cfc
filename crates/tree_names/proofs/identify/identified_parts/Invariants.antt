use Rattle.std.proofs.Common.{map, codes}
use Rattle.std.specs.Vec.Iter.{into_iter_items}
use Rattle.good_names.specs.Given.{nothing_off}
use Rattle.tree_names.specs.Seen.{part_view, part_identified}
use Rattle.tree_names.proofs.Steps.{Gives}
use Rattle.tree_names.proofs.identify.identified_parts.Given as goal

abbrev pub invariant-loop-part : goal.invariant-loop-part
invariant-loop-part l = Gives nothing_off (codes "field") part_identified l.fn.names l.names (map part_view l.identified.items) (map part_view (into_iter_items l.part-iterator)) (map part_view l.fn.fields.items)
