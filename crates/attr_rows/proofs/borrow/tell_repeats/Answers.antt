use Rattle.std.proofs.Common.{map, take}
use Rattle.syntax_trees.specs.View.{lifetime_view}
use Rattle.attr_acts.proofs.Loops.{mapped_drop}
use Rattle.attr_rows.proofs.LifetimeLoops.{held_on, repeats_on, mapped_take}
use Rattle.attr_rows.proofs.borrow.tell_repeats.Goals as goal

pub loop-lifetime-preserved : goal.loop-lifetime-preserved
loop-lifetime-preserved c =
    let l = c.loop-lifetime in
    let x = lifetime_view c.lifetime-item.result in
    let done = map lifetime_view (take l.lifetime-index c.args.all.now) in
    let next = mapped_drop lifetime_view c.args.all.now l.lifetime-index c.lifetime-item.result c.loop-lifetime-test.true c.lifetime-item.is in
    let more = mapped_take lifetime_view c.args.all.now l.lifetime-index c.lifetime-item.result c.loop-lifetime-test.true c.lifetime-item.is in
    record {
      before = held_on done _ _ _ x l.invariant.before more c.in_ok-tell_repeat.ensures.before;
      acts = repeats_on c.args.at done _ _ _ _ x _ _ _ l.invariant.before l.invariant.acts next more c.in_ok-tell_repeat.ensures.acts;
    }
