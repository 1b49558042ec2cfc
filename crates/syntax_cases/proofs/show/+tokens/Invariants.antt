use Rattle.std.proofs.Common.{◌+◌, ◌*◌}
use Rattle.syntax_cases.proofs.show.+tokens.Given as goal

abbrev pub decreases-show_token : goal.decreases-show_token
decreases-show_token l = 2 * l.depth

abbrev pub decreases-show_tokens : goal.decreases-show_tokens
decreases-show_tokens l = 2 * l.depth + 1
