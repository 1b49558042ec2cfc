use Rattle.std.proofs.Common.{◌≡◌, take, map}
use Rattle.syntax_trees.specs.Item.{predicate_view}
use Rattle.syntax_trees.proofs.copy_item.copy_predicates.Given as goal

abbrev pub invariant-loop-item : goal.invariant-loop-item
invariant-loop-item l = map predicate_view l.copies.items ≡ map predicate_view (take l.item-index l.item-items)
