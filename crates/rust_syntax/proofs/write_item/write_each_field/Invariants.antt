use Rattle.std.proofs.Common.{◌≡◌, ◌++◌, drop, map}
use Rattle.token_trees.specs.View.{stream}
use Rattle.syntax_trees.specs.Item.{field_view}
use Rattle.rust_syntax.specs.PrintItem.{print_each_field}
use Rattle.rust_syntax.proofs.write_item.write_each_field.Given as goal

abbrev pub invariant-loop-item : goal.invariant-loop-item
invariant-loop-item l = stream l.out ++ print_each_field (map field_view (drop l.item-index l.from)) ≡ stream l.initial.out ++ print_each_field (map field_view l.from)
