use Rattle.std.proofs.Common.{◌≡◌, take, map}
use Rattle.syntax_trees.specs.Item.{variant_view}
use Rattle.syntax_trees.proofs.copy_item.copy_variants.Given as goal

abbrev pub invariant-loop-item : goal.invariant-loop-item
invariant-loop-item l = map variant_view l.copies.items ≡ map variant_view (take l.item-index l.item-items)
