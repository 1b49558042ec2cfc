use Rattle.value_models.specs.ContainerView.{variants_in}
use Rattle.evolve_rows.specs.Led.{led_view}
use Rattle.evolve_rows.specs.TurnView.{pairs_view}
use Rattle.evolve_rows.proofs.Leading.{read_turn}
use Rattle.evolve_rows.proofs.variants.all_led.Goals as goal

pub loop-place-preserved : goal.loop-place-preserved
loop-place-preserved c =
    read_turn c.args.beside c.args.old_home.now c.args.home.now (variants_in c.args.new.now) c.args.old.now c.loop-place.place c.index-old-place.result c.in_ok-number.number
    (led_view c.in-Some.found) (pairs_view c.loop-place.pairs.items) (pairs_view c.push_led.new.pairs.items) _ c.loop-place-test.true c.index-old-place.is c.in_ok-number.ensures c.in-Some.ensures
    c.in_ok-push_led.ensures c.loop-place.invariant
