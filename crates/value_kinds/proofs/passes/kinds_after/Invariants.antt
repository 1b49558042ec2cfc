use Rattle.std.proofs.Common.{◌≡◌}
use Rattle.reference_graph.specs.Graph.{graph_of}
use Rattle.value_kinds.specs.Rounds.{kinds_after}
use Rattle.value_kinds.proofs.passes.kinds_after.Given as goal

abbrev pub invariant-loop-round : goal.invariant-loop-round
invariant-loop-round l = l.kinds.items ≡ kinds_after l.owns (graph_of l.rows) l._round
