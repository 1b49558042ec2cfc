use Rattle.std.proofs.Common.{◌≡◌, ◌++◌, drop, map, flat_map}
use Rattle.schema_tree.specs.Conversions.{constraint_view}
use Rattle.space_defs.specs.Items.{items_from, items_at}
use Rattle.space_defs.specs.Trees.{item_constraints_at}
use Rattle.emit_types.specs.Asked.{space_view}
use Rattle.emit_space.proofs.emitting.constraints_of.Given as goal

abbrev pub invariant-loop-id : goal.invariant-loop-id
invariant-loop-id l = map constraint_view l.constraints.items ++ flat_map item_constraints_at (items_from l.id (space_view (drop l.id l.entries))) ≡ flat_map item_constraints_at (items_at (space_view l.entries))
