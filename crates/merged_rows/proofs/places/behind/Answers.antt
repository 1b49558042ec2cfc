use Rattle.std.proofs.Common.{◌++◌}
use Rattle.merged_rows.specs.Starts.{trail_steps}
use Rattle.merged_rows.proofs.Trails.{place_end, place_turn}
use Rattle.merged_rows.proofs.places.behind.Goals as goal

pub loop-steps-preserved : goal.loop-steps-preserved
loop-steps-preserved c =
    let ks = c.deref-steps-items.result.now in
    place_turn ks c.loop-steps.steps-index _ c.loop-steps.place c.in_ok-place.place (c.args.location ++ trail_steps ks) c.loop-steps-test.true c.in_ok-place.ensures c.loop-steps.invariant

pub returns : goal.returns
returns c =
    place_end c.deref-steps-items.result.now c.args.trail.now.items c.loop-steps.steps-index c.args.location c.loop-steps.place c.loop-steps-test.false c.deref-steps-items.ensures.value c.loop-steps.invariant
