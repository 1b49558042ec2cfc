use Rattle.std.proofs.Common.{◌≡◌, ◌++◌, drop, map}
use Rattle.token_trees.specs.View.{stream}
use Rattle.syntax_trees.specs.Item.{predicate_view}
use Rattle.syntax_printing.specs.PrintPredicates.{print_predicates}
use Rattle.rust_syntax.proofs.write_item.write_predicates.Given as goal

abbrev pub invariant-loop-item : goal.invariant-loop-item
invariant-loop-item l = stream l.out ++ print_predicates l.between (map predicate_view (drop l.item-index l.from)) ≡ stream l.initial.out ++ print_predicates l.initial.between (map predicate_view l.from)
