use Rattle.std.proofs.Common.{◌≡◌, ◌++◌, drop}
use Rattle.use_graph.specs.Graph.{graph_of}
use Rattle.space_defs.specs.Uses.{uses_at}
use Rattle.emit_types.specs.Asked.{space_view}
use Rattle.emit_types.proofs.used.uses.Given as goal

abbrev pub invariant-loop-entry : goal.invariant-loop-entry
invariant-loop-entry l = graph_of l.rows.items ++ uses_at (space_view (drop l.entry-index l.entries)) ≡ uses_at (space_view l.entries)
