use Rattle.std.proofs.Common.{◌≡◌, take, map}
use Rattle.syntax_trees.specs.Item.{predicate_view}
use Rattle.derive_receiver.specs.Replaced.{in_predicate}
use Rattle.derive_receiver.specs.View.{own_view}
use Rattle.derive_receiver.proofs.item.walk_predicates.Given as goal

abbrev pub invariant-loop-item : goal.invariant-loop-item
invariant-loop-item l = map predicate_view l.walked.items ≡ map (in_predicate (own_view l.own)) (map predicate_view (take l.item-index l.item-items))
