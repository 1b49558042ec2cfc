use Rattle.syntax_trees.specs.View.{lifetime_view}
use Rattle.attr_acts.proofs.Loops.{mapped_drop}
use Rattle.attr_rows.proofs.LifetimeLoops.{set_on}
use Rattle.attr_rows.proofs.borrow.set_of.Goals as goal

pub loop-lifetime-preserved : goal.loop-lifetime-preserved
loop-lifetime-preserved c =
    let l = c.loop-lifetime in
    let next = mapped_drop lifetime_view c.args.all.now l.lifetime-index c.lifetime-item.result c.loop-lifetime-test.true c.lifetime-item.is in
    set_on _ _ _ _ _ _ _ l.invariant next c.in_ok-insert.ensures.set c.in_ok-try_clone.ensures
