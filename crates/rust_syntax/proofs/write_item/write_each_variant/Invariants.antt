use Rattle.std.proofs.Common.{◌≡◌, ◌++◌, drop, map}
use Rattle.token_trees.specs.View.{stream}
use Rattle.syntax_trees.specs.Item.{variant_view}
use Rattle.rust_syntax.specs.PrintItem.{print_each_variant}
use Rattle.rust_syntax.proofs.write_item.write_each_variant.Given as goal

abbrev pub invariant-loop-item : goal.invariant-loop-item
invariant-loop-item l = stream l.out ++ print_each_variant (map variant_view (drop l.item-index l.from)) ≡ stream l.initial.out ++ print_each_variant (map variant_view l.from)
