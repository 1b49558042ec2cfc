use Rattle.std.proofs.Common.{◌+◌}
use Rattle.token_trees.specs.Token.{toks_of}
use Rattle.token_trees.specs.View.{tree, trees, group_view}
use Rattle.attr_acts.proofs.Weights.{weight, weights, inner}
use Rattle.attr_acts.proofs.string.+string.Given as goal

abbrev pub decreases-text_in : goal.decreases-text_in
decreases-text_in l = weight (tree l.token.now)

abbrev pub decreases-text_in_group : goal.decreases-text_in_group
decreases-text_in_group l = inner (group_view l.group.now) + 2

abbrev pub decreases-text_alone : goal.decreases-text_alone
decreases-text_alone l = weights (toks_of (trees l.tokens.now)) + 1
