use Rattle.std.proofs.Common.{map, take, codes}
use Rattle.good_names.specs.Given.{Does}
use Rattle.tree_types.specs.View.{tree_view}
use Rattle.tree_names.specs.Seen.{trees_named}
use Rattle.tree_names.proofs.table.named_trees.Given as goal

abbrev pub invariant-loop-tree : goal.invariant-loop-tree
invariant-loop-tree l = Does (codes "Type") l.fn.names l.names (map tree_view l.named.items) (trees_named (map tree_view (take l.tree-index l.tree-items)))
