use Rattle.value_kinds.proofs.Turns.{place_turn}
use Rattle.value_kinds.proofs.passes.with_places.Goals as goal

pub loop-place-preserved : goal.loop-place-preserved
loop-place-preserved c =
    let l = c.loop-place in
    place_turn c.args.kinds.now c.args.row.now l.place-index _ c.loop-place-test.true l.all c.kinds_at.result c.either-all.result _ c.kinds_at.ensures c.either-all.ensures l.invariant
