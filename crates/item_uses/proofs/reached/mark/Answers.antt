use Rattle.item_uses.proofs.Marking.{mark_turn}
use Rattle.item_uses.proofs.reached.mark.Goals as goal

pub loop-node-preserved : goal.loop-node-preserved
loop-node-preserved c =
    mark_turn c.args.row.now c.loop-node.node-index _ c.args.flags.now.items c.loop-node.flags.items c.mark_node.new.flags.items c.loop-node-test.true c.in_ok-mark_node.ensures c.loop-node.invariant
