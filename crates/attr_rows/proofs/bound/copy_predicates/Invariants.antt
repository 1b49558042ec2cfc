use Rattle.std.proofs.Common.{◌≡◌, take, map}
use Rattle.syntax_trees.specs.Item.{predicate_view}
use Rattle.attr_rows.proofs.bound.copy_predicates.Given as goal

abbrev pub invariant-loop-predicate : goal.invariant-loop-predicate
invariant-loop-predicate l = map predicate_view l.copies.items ≡ map predicate_view (take l.predicate-index l.from)
