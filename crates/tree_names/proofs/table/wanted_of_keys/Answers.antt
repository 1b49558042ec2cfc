use Rattle.std.proofs.Common.{arith}
use Rattle.tree_names.proofs.Turns.{keys_wanted_turn, keys_wanted_end}
use Rattle.tree_names.proofs.table.wanted_of_keys.Goals as goal

pub loop-target-preserved : goal.loop-target-preserved
loop-target-preserved c =
    keys_wanted_turn _ c.want_key.new.names c.deref-target-items.result.now c.loop-target.target-index c.target-item.result c.loop-target.invariant c.loop-target-test.true c.target-item.is c.in_ok-want_key.ensures

pub returns : goal.returns
returns c = keys_wanted_end _ c.deref-target-items.result.now c.args.targets.now.items c.loop-target.target-index c.loop-target.invariant (omega arith) c.deref-target-items.ensures.value
