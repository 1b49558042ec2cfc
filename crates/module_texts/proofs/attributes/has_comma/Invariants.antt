use Rattle.std.proofs.Common.{◌≡◌, length}
use Rattle.token_trees.specs.View.{trees}
use Rattle.module_texts.specs.Attributes.{has_comma}
use Rattle.module_texts.proofs.attributes.has_comma.Given as goal

abbrev pub invariant-loop-first : goal.invariant-loop-first
invariant-loop-first l = has_comma (trees l.trees) ≡ has_comma (trees l.left)

abbrev pub decreases-loop-first : goal.decreases-loop-first
decreases-loop-first l = length l.left
