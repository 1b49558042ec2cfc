use Rattle.std.proofs.Common.{◌≡◌, map, drop}
use Rattle.entry_space.specs.Seen.{seen}
use Rattle.tree_types.specs.View.{tree_view}
use Rattle.space_trees.specs.Filled.{placed_rest}
use Rattle.space_trees.specs.Leading.{ids_of}
use Rattle.space_trees.proofs.table.place_rest.Given as goal

abbrev pub invariant-loop-tree : goal.invariant-loop-tree
invariant-loop-tree l =
    placed_rest (ids_of l.led) (map tree_view (drop l.tree-index l.trees)) (seen l.space) ≡ placed_rest (ids_of l.led) (map tree_view l.trees) (seen l.fn.space)
