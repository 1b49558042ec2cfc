use Rattle.std.proofs.Common.{◌≡◌, take, map}
use Rattle.syntax_trees.specs.View.{lifetime_view}
use Rattle.syntax_trees.proofs.copy_item.copy_lifetimes.Given as goal

abbrev pub invariant-loop-item : goal.invariant-loop-item
invariant-loop-item l = map lifetime_view l.copies.items ≡ map lifetime_view (take l.item-index l.item-items)
