use Rattle.value_models.specs.ContainersView.{containers_in}
use Rattle.plain_tables.proofs.KindsApart.{clear_turn}
use Rattle.plain_tables.proofs.enums.variants_are_apart.Goals as goal

pub loop-variant-preserved : goal.loop-variant-preserved
loop-variant-preserved c =
    clear_turn (containers_in c.args.table.now.containers) c.args.closed c.args.variants.now c.loop-variant.variant-index c.variant-item.result c.loop-variant.seen c.either-seen.result c.content_kinds-kinds.result c.is_apart.result _
    c.loop-variant-test.true c.variant-item.is (c.content_kinds-kinds.ensures c.args.closed) c.is_apart.ensures c.if-not-is_apart.false c.either-seen.ensures c.loop-variant.invariant
