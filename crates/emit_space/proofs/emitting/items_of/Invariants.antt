use Rattle.std.proofs.Common.{◌≡◌, ◌++◌, drop, map, flat_map, length}
use Rattle.syntax_trees.specs.Item.{item_view}
use Rattle.json_value.specs.View.{kept_view}
use Rattle.space_defs.specs.Items.{items_from, items_at}
use Rattle.space_defs.specs.Trees.{item_trees_at, shape_defaults_at}
use Rattle.emit_types.specs.Asked.{space_view, same_part, leads_by}
use Rattle.emit_space.proofs.emitting.items_of.Given as goal

abbrev pub invariant-loop-id : goal.invariant-loop-id
invariant-loop-id l = record {
  items : map item_view l.items.items ++ item_trees_at (space_view l.entries) (same_part l.parts) (leads_by l.leads) (length l.defaults.items) (items_from l.id (space_view (drop l.id l.entries)))
      ≡ item_trees_at (space_view l.entries) (same_part l.parts) (leads_by l.leads) (length l.initial.defaults.items) (items_at (space_view l.entries));
  defaults : map kept_view l.defaults.items ++ flat_map (λ i. shape_defaults_at i.shape) (items_from l.id (space_view (drop l.id l.entries)))
      ≡ map kept_view l.initial.defaults.items ++ flat_map (λ i. shape_defaults_at i.shape) (items_at (space_view l.entries));
}
