use Rattle.std.proofs.Common.{◌≡◌, ◌++◌, drop, map}
use Rattle.token_trees.specs.View.{stream}
use Rattle.syntax_trees.specs.Item.{param_view}
use Rattle.rust_syntax.specs.PrintItem.{print_params}
use Rattle.rust_syntax.proofs.write_item.write_params.Given as goal

abbrev pub invariant-loop-item : goal.invariant-loop-item
invariant-loop-item l = stream l.out ++ print_params l.between (map param_view (drop l.item-index l.from)) ≡ stream l.initial.out ++ print_params l.initial.between (map param_view l.from)
