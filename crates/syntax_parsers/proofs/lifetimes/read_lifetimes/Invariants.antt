use Rattle.std.proofs.Common.{◌≡◌, length, map}
use Rattle.token_trees.specs.View.{trees}
use Rattle.syntax_trees.specs.View.{lifetime_view}
use Rattle.syntax_parsers.specs.Answer.{with_front}
use Rattle.syntax_parsers.specs.Lifetimes.{lifetimes_of}
use Rattle.syntax_parsers.proofs.lifetimes.read_lifetimes.Given as goal

abbrev pub invariant-list : goal.invariant-list
invariant-list l = with_front (map lifetime_view l.found.items) (lifetimes_of (trees l.left)) ≡ lifetimes_of (trees l.tokens)

abbrev pub decreases-list : goal.decreases-list
decreases-list l = length l.left
