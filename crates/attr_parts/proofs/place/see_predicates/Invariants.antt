use Rattle.std.proofs.Common.{◌≡◌, drop, map}
use Rattle.syntax_trees.specs.Item.{predicate_view}
use Rattle.attr_parts.specs.Places.{predicates_spans, reached}
use Rattle.attr_parts.proofs.place.see_predicates.Given as goal

abbrev pub invariant-loop-item : goal.invariant-loop-item
invariant-loop-item l = reached l.reach (predicates_spans (map predicate_view (drop l.item-index l.from))) ≡ reached l.initial.reach (predicates_spans (map predicate_view l.from))
