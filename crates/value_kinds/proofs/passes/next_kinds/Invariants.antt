use Rattle.std.proofs.Common.{◌≡◌, ◌++◌}
use Rattle.reference_graph.specs.Graph.{graph_of}
use Rattle.value_kinds.specs.Rounds.{next_kinds}
use Rattle.value_kinds.proofs.Turns.{later}
use Rattle.value_kinds.proofs.passes.next_kinds.Given as goal

abbrev pub invariant-loop-place : goal.invariant-loop-place
invariant-loop-place l = l.next.items ++ later l.kinds l.owns l.rows 0 l.place ≡ next_kinds l.kinds l.owns (graph_of l.rows)
