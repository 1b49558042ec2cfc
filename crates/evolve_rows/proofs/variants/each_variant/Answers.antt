use Rattle.std.proofs.Common.{refl}
use Rattle.evolve_rows.specs.PlaceView.{place_view}
use Rattle.evolve_rows.proofs.Leading.{each_turn}
use Rattle.evolve_rows.proofs.variants.each_variant.Goals as goal

pub loop-place-preserved : goal.loop-place-preserved
loop-place-preserved c =
    each_turn c.args.old_home.now (place_view c.args.new) c.args.old.now c.loop-place.place c.loop-place.pairs.items c.push.new.self.items _ c.in_ok-number.number _ c.loop-place-test.true
    c.in_ok-number.ensures c.in_ok-push.ensures.items refl c.loop-place.invariant
