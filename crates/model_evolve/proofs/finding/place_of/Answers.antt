use Rattle.model_evolve.proofs.Numbers.{found_here, not_here}
use Rattle.model_evolve.proofs.finding.place_of.Goals as goal

pub loop-place-preserved : goal.loop-place-preserved
loop-place-preserved c = not_here c.args.name.now c.args.containers.now c.loop-place.place c.index-containers-place.result c.is_named.result _ c.loop-place-test.true c.index-containers-place.is c.is_named.ensures c.if-is_named.false c.loop-place.invariant

pub returns-then-is_named : goal.returns-then-is_named
returns-then-is_named c = found_here c.args.name.now c.args.containers.now c.loop-place.place c.index-containers-place.result c.is_named.result _ c.loop-place-test.true c.index-containers-place.is c.is_named.ensures c.if-is_named.true c.loop-place.invariant
