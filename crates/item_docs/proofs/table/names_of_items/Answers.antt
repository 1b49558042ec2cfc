use Rattle.std.proofs.Common.{◌≡◌}
use Rattle.syntax_trees.specs.Item.{item_view}
use Rattle.name_tables.specs.Names.{entered}
use Rattle.item_docs.proofs.Tables.{item_turn}
use Rattle.item_docs.proofs.table.names_of_items.Goals as goal

pub loop-place-preserved : goal.loop-place-preserved
loop-place-preserved c =
    let next : c.enter.new.names ≡ entered (item_view c.index-items-place.result).name.text c.loop-place.place c.loop-place.names = cc (c.in_ok-enter.ensures) in
    item_turn c.args.items.now c.loop-place.place c.index-items-place.result _ _ _ c.loop-place-test.true c.index-items-place.is next c.loop-place.invariant
