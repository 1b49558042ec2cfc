use Rattle.std.proofs.Common.{map}
use Rattle.token_trees.specs.View.{stream}
use Rattle.token_trees.specs.Marked.{marked}
use Rattle.token_trees.proofs.Copies.{Rebuilds, copy_work}
use Rattle.token_trees.proofs.copy.copy_stream.Given as goal

abbrev pub invariant-loop-tree : goal.invariant-loop-tree
invariant-loop-tree l = Rebuilds l.fn.span (map (marked l.fn.span) (stream l.from)) l.levels.items (stream l.copied) l.left

abbrev pub decreases-loop-tree : goal.decreases-loop-tree
decreases-loop-tree l = copy_work l.levels.items l.left
