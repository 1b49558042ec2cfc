use Rattle.std.proofs.Common.{length}
use Rattle.use_graph.specs.Graph.{graph_of}
use Rattle.use_graph.proofs.Rounds.{certify, graph_length, held}
use Rattle.use_graph.proofs.certified.is_certified.Goals as goal

pub returns : goal.returns
returns c = λ e.
    let h = c.all_hold-certified.ensures e in
    certify (graph_of c.args.uses.now) c.args.proposal.now (length c.args.uses.now) c.in_ok-met.met.items c.deref.result.now c.deref.ensures.value (graph_length c.args.uses.now)
    (held c.args.proposal.now.parts (length c.args.uses.now) (c.is_sized-sized.ensures h.0)) (c.rises-rising.ensures h.1) (c.all_go_back-back.ensures h.2) (c.all_met-ahead.ensures h.3) c.in_ok-met.ensures
