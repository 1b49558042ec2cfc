use Rattle.std.proofs.Common.{map}
use Rattle.syntax_trees.specs.Item.{item_view}
use Rattle.json_value.specs.View.{kept_view}
use Rattle.emit_types.specs.Asked.{space_view, same_part, leads_by}
use Rattle.emit_space.proofs.Placed.{trees_turn, defaults_turn}
use Rattle.emit_space.proofs.emitting.items_of.Goals as goal

pub loop-id-preserved : goal.loop-id-preserved
loop-id-preserved c = record {
  items = trees_turn (space_view c.args.entries.now) (same_part c.args.parts.now) (leads_by c.args.leads.now) c.args.entries.now c.loop-id.id c.index-entries-id.result c.loop-id.defaults.items
      c.add_item.new.defaults.items (map item_view c.loop-id.items.items) (map item_view c.add_item.new.items.items) _ c.loop-id-test.true c.index-entries-id.is c.in_ok-add_item.ensures.items
      c.in_ok-add_item.ensures.defaults c.loop-id.invariant.items;
  defaults = defaults_turn c.args.entries.now c.loop-id.id c.index-entries-id.result (map kept_view c.loop-id.defaults.items) (map kept_view c.add_item.new.defaults.items) _ c.loop-id-test.true
      c.index-entries-id.is c.in_ok-add_item.ensures.defaults c.loop-id.invariant.defaults;
}
