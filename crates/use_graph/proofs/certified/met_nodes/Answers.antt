use Rattle.std.proofs.Common.{◌≡◌, sym, ◌∙◌, arith}
use Rattle.use_graph.specs.Graph.{graph_of, row_of}
use Rattle.use_graph.proofs.Rounds.{row_is, more_met}
use Rattle.use_graph.proofs.certified.met_nodes.Goals as goal

pub loop-node-preserved : goal.loop-node-preserved
loop-node-preserved c =
    let g = graph_of c.args.uses.now in
    let is_row : row_of g c.loop-node.node ≡ c.deref.result.now = row_is c.args.uses.now c.index-uses-node.result c.loop-node.node (omega arith) c.index-uses-node.is ∙ sym c.deref.ensures.value in
    more_met g c.args.proposal.now c.loop-node.node c.deref.result.now c.loop-node.met.items c.meet.new.met.items is_row c.loop-node.invariant c.meet.ensures
