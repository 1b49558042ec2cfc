use Rattle.merged_rows.specs.Starts.{walk_by}
use Rattle.merged_rows.proofs.Trails.{walk_end, walk_turn}
use Rattle.merged_rows.proofs.places.walk_of.Goals as goal

pub loop-steps-preserved : goal.loop-steps-preserved
loop-steps-preserved c =
    let ks = c.deref-steps-items.result.now in
    walk_turn ks c.loop-steps.steps-index _ c.loop-steps.walk c.in_ok-walk-2.walk (walk_by c.args.start.now.walk ks) c.loop-steps-test.true c.in_ok-walk-2.ensures c.loop-steps.invariant

pub returns : goal.returns
returns c =
    walk_end c.deref-steps-items.result.now c.args.trail.now.items c.loop-steps.steps-index c.loop-steps.walk c.args.start.now.walk c.loop-steps-test.false c.deref-steps-items.ensures.value c.loop-steps.invariant
