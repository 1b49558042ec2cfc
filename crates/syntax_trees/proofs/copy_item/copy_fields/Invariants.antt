use Rattle.std.proofs.Common.{◌≡◌, take, map}
use Rattle.syntax_trees.specs.Item.{field_view}
use Rattle.syntax_trees.proofs.copy_item.copy_fields.Given as goal

abbrev pub invariant-loop-item : goal.invariant-loop-item
invariant-loop-item l = map field_view l.copies.items ≡ map field_view (take l.item-index l.item-items)
