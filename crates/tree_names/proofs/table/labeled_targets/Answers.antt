use Rattle.std.proofs.Common.{◌<◌, length, arith}
use Rattle.tree_names.proofs.Turns.{targets_turn}
use Rattle.tree_names.proofs.table.labeled_targets.Goals as goal

pub loop-at-preserved : goal.loop-at-preserved
loop-at-preserved c =
    let h : c.loop-at.at < length c.args.targets.now.items = omega (arith, c.loop-at-test.true, c.len-at-end.ensures, c.args.targets.now.ok.0) in
    let k : c.loop-at.at < length c.args.labels.now.items = omega (arith, h, c.requires) in
    targets_turn _ _ _ c.loop-at.named.items c.push.new.self.items c.args.targets.now.items c.args.labels.now.items c.loop-at.at c.index-in-loop-at.result.now c.in_ok-target.target c.index.result.now c.loop-at.invariant h k
    c.index-in-loop-at.ensures c.index.ensures c.in_ok-push.ensures.items c.in_ok-target.ensures
