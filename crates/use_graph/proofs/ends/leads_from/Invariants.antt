use Rattle.std.proofs.Common.{◌≡◌, length}
use Rattle.use_graph.specs.Ends.{leads_within}
use Rattle.use_graph.proofs.ends.leads_from.Given as goal

abbrev pub invariant-loop-left : goal.invariant-loop-left
invariant-loop-left l = leads_within l.next l.left l.node ≡ leads_within l.next (length l.next) l.start

abbrev pub decreases-loop-left : goal.decreases-loop-left
decreases-loop-left l = l.left
