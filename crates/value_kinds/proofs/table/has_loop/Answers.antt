use Rattle.std.proofs.Common.{◌≡◌, ◌↔◌, false, sym, subst}
use Rattle.reference_graph.specs.Graph.{IsAcyclic, graph_of}
use Rattle.value_kinds.proofs.Graphs.{some_or_none}
use Rattle.value_kinds.proofs.table.has_loop.Goals as goal

pub returns : goal.returns
returns c =
    let free = IsAcyclic (graph_of c.args.rows.now) in
    subst (λ b. (b ≡ false) ↔ free) (sym c.is_some.ensures) (some_or_none c.in_ok-found.found free c.in_ok-found.ensures.none)
