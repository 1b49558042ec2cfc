use Rattle.conversion_table.specs.Conversions.{conversions_view}
use Rattle.value_models.specs.ContainersView.{containers_in}
use Rattle.plain_tables.proofs.Failing.{failing_turn}
use Rattle.plain_tables.proofs.table.first_failing.Goals as goal

pub loop-place-preserved : goal.loop-place-preserved
loop-place-preserved c =
    failing_turn (containers_in c.args.table.now.containers) (conversions_view c.args.conversions.now) c.args.first c.requires.reaching c.args.containers.now c.loop-place.place c.index-containers-place.result
    c.in_ok-item_fails.field-0 c.requires.whole c.loop-place-test.true c.index-containers-place.is c.in_ok-item_fails.ensures c.if-branch.false c.loop-place.invariant
