use Rattle.reference_graph.specs.Graph.{graph_of}
use Rattle.item_uses.proofs.Marking.{at_first}
use Rattle.item_uses.proofs.reached.marked.Goals as goal

pub loop-step-init : goal.loop-step-init
loop-step-init c = at_first (graph_of c.args.rows.now) c.args.starts.now c.in_ok-flags.flags.items c.mark.new.flags.items c.in_ok-flags.ensures c.in_ok-mark.ensures
