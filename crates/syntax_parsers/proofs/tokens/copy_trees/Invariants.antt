use Rattle.std.proofs.Common.{◌≡◌, ◌++◌, length}
use Rattle.token_trees.specs.View.{trees, stream}
use Rattle.syntax_parsers.proofs.tokens.copy_trees.Given as goal

abbrev pub invariant-trees : goal.invariant-trees
invariant-trees l = stream l.copy ++ trees l.left ≡ trees l.from

abbrev pub decreases-trees : goal.decreases-trees
decreases-trees l = length l.left
