use Rattle.std.proofs.Common.{map, take}
use Rattle.tree_names.specs.Seen.{part_view, identifiers_of}
use Rattle.tree_names.proofs.Turns.{Takes}
use Rattle.tree_names.proofs.identify.take_bound.Given as goal

abbrev pub invariant-loop-part : goal.invariant-loop-part
invariant-loop-part l = Takes l.fn.names l.names (identifiers_of (map part_view (take l.part-index l.part-items)))
