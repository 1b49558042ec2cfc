use Rattle.reference_graph.specs.Graph.{graph_of}
use Rattle.value_kinds.proofs.Graphs.{first_of_loop}
use Rattle.value_kinds.proofs.table.first_looping.Goals as goal

pub returns : goal.returns
returns c =
    let found = c.in_ok-found in
    first_of_loop (graph_of c.args.rows.now) found.found c.start_of-start.result found.ensures.none found.ensures.path found.ensures.least c.start_of-start.ensures
