use Rattle.std.proofs.Common.{◌≡◌, ◌++◌, drop, map}
use Rattle.token_trees.specs.View.{stream}
use Rattle.syntax_trees.specs.View.{lifetime_view}
use Rattle.syntax_printing.specs.PrintPredicates.{print_lifetimes}
use Rattle.rust_syntax.proofs.write_item.write_lifetimes.Given as goal

abbrev pub invariant-loop-item : goal.invariant-loop-item
invariant-loop-item l = stream l.out ++ print_lifetimes l.between (map lifetime_view (drop l.item-index l.from)) ≡ stream l.initial.out ++ print_lifetimes l.initial.between (map lifetime_view l.from)
