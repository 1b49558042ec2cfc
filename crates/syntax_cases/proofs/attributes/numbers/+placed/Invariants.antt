use Rattle.std.proofs.Common.{◌+◌, ◌*◌}
use Rattle.syntax_cases.proofs.attributes.numbers.+placed.Given as goal

abbrev pub decreases-placed : goal.decreases-placed
decreases-placed l = 2 * l.depth + 1

abbrev pub decreases-placed_trees : goal.decreases-placed_trees
decreases-placed_trees l = 2 * l.depth
