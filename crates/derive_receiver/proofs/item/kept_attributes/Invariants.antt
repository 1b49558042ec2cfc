use Rattle.std.proofs.Common.{◌≡◌, take, map}
use Rattle.syntax_trees.specs.Item.{attribute_view}
use Rattle.derive_receiver.proofs.item.kept_attributes.Given as goal

abbrev pub invariant-loop-item : goal.invariant-loop-item
invariant-loop-item l = map attribute_view l.kept.items ≡ map attribute_view (take l.item-index l.item-items)
