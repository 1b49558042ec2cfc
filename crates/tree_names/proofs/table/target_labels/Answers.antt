use Rattle.std.proofs.Common.{arith}
use Rattle.tree_names.proofs.Turns.{labels_turn, labels_end}
use Rattle.tree_names.proofs.table.target_labels.Goals as goal

pub loop-target-preserved : goal.loop-target-preserved
loop-target-preserved c =
    labels_turn _ _ _ c.loop-target.labels.items c.push.new.self.items c.deref-target-items.result.now c.loop-target.target-index c.target-item.result c.in_ok-label.label c.loop-target.invariant c.loop-target-test.true c.target-item.is
    c.in_ok-push.ensures.items c.in_ok-label.ensures

pub returns : goal.returns
returns c = labels_end _ _ c.loop-target.labels.items c.deref-target-items.result.now c.args.targets.now.items c.loop-target.target-index c.loop-target.invariant (omega arith) c.deref-target-items.ensures.value
