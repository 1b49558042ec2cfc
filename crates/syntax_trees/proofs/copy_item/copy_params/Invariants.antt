use Rattle.std.proofs.Common.{◌≡◌, take, map}
use Rattle.syntax_trees.specs.Item.{param_view}
use Rattle.syntax_trees.proofs.copy_item.copy_params.Given as goal

abbrev pub invariant-loop-item : goal.invariant-loop-item
invariant-loop-item l = map param_view l.copies.items ≡ map param_view (take l.item-index l.item-items)
