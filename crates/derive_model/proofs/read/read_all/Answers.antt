use Rattle.syntax_trees.specs.Item.{item_view}
use Rattle.attr_parts.specs.declared.derive.Derive.TheVariants.{Serialize, Deserialize}
use Rattle.derive_model.specs.Items.{container_of, told_of}
use Rattle.derive_model.proofs.ReadItems.{both_told, item_told, item_read}
use Rattle.derive_model.proofs.read.read_all.Goals as goal

pub loop-item-preserved : goal.loop-item-preserved
loop-item-preserved g c =
    let l = c.loop-item in
    let v = g.R.Renamer.variant_name in
    let f = g.R.Renamer.field_name in
    let items = c.args.items.now in
    let x = c.item-item.result in
    record {
      written = item_read item_view items l.item-index x c.loop-item-test.true c.item-item.is (container_of v f Serialize) _ _ _ c.in_ok-read_one.ensures.containers l.invariant.written;
      read = item_read item_view items l.item-index x c.loop-item-test.true c.item-item.is (container_of v f Deserialize) _ _ _ c.in_ok-read_one-2.ensures.containers l.invariant.read;
      told = item_told item_view items l.item-index x c.loop-item-test.true c.item-item.is (told_of v f) _ _ _ (both_told v f (item_view x) _ _ _ c.in_ok-read_one.ensures.told c.in_ok-read_one-2.ensures.told) l.invariant.told;
    }
