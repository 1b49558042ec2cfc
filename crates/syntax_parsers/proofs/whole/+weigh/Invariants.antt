use Rattle.std.proofs.Common.{◌+◌, ◌*◌, ◌≡◌, length}
use Rattle.token_trees.specs.View.{tree, trees}
use Rattle.syntax_parsers.specs.Fronts.{weight, tree_weight}
use Rattle.syntax_parsers.proofs.whole.+weigh.Given as goal

abbrev pub decreases-weigh_tree : goal.decreases-weigh_tree
decreases-weigh_tree l = 2 * tree_weight (tree l.token.now)

abbrev pub decreases-weigh : goal.decreases-weigh
decreases-weigh l = 2 * weight (trees l.tokens.now) + 1

abbrev pub invariant-weigh-trees : goal.invariant-weigh-trees
invariant-weigh-trees l = l.total + weight (trees l.left) ≡ weight (trees l.tokens)

abbrev pub decreases-weigh-trees : goal.decreases-weigh-trees
decreases-weigh-trees l = length l.left
