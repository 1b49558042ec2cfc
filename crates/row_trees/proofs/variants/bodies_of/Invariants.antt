use Rattle.std.proofs.Common.{◌≡◌, ◌++◌, drop, map}
use Rattle.tree_types.specs.View.{tree_view}
use Rattle.row_findings.specs.View.{variant_view}
use Rattle.row_trees.specs.Build.{bodies_held}
use Rattle.row_trees.specs.Held.{bodies_view}
use Rattle.row_trees.proofs.variants.bodies_of.Given as goal

abbrev pub invariant-loop-row : goal.invariant-loop-row
invariant-loop-row l = bodies_view l.bodies.items ++ bodies_held (map variant_view (drop l.row-index l.row-items)) (map tree_view l.trees.items) ≡ bodies_held (map variant_view l.row-items) (map tree_view l.initial.trees.items)
