use Rattle.std.proofs.Common.{◌+◌, ◌*◌}
use Rattle.syntax_texts.proofs.nesting.+nesting.Given as goal

abbrev pub decreases-are_shallow : goal.decreases-are_shallow
decreases-are_shallow l = 2 * l.room + 1

abbrev pub decreases-token_is_shallow : goal.decreases-token_is_shallow
decreases-token_is_shallow l = 2 * l.room
