use Rattle.std.proofs.Common.{arith}
use Rattle.tree_names.proofs.Turns.{takes_turn, takes_end}
use Rattle.tree_names.proofs.identify.take_bound.Goals as goal

pub loop-part-preserved : goal.loop-part-preserved
loop-part-preserved c =
    takes_turn _ _ c.take_label.new.names c.deref-part-items.result.now c.loop-part.part-index c.part-item.result c.loop-part.invariant c.loop-part-test.true c.part-item.is c.in_ok-take_label.ensures

pub returns : goal.returns
returns c = takes_end _ _ c.deref-part-items.result.now c.args.fields.now.items c.loop-part.part-index c.loop-part.invariant (omega arith) c.deref-part-items.ensures.value
