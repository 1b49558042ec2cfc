use Rattle.std.proofs.Common.{◌≡◌, map}
use Rattle.token_trees.specs.View.{trees}
use Rattle.syntax_trees.specs.Item.{predicate_view}
use Rattle.syntax_parsers.specs.Answer.{with_front}
use Rattle.syntax_parsers.specs.Read.{levels}
use Rattle.syntax_parsers.specs.Where.{some_predicates}
use Rattle.syntax_parsers.proofs.predicates.read_all_predicates.Given as goal

abbrev pub invariant-predicates : goal.invariant-predicates
invariant-predicates l =
    some_predicates l.room l.room (levels l.room) l.at (trees l.tokens)
    ≡ with_front (map predicate_view l.found.items) (some_predicates l.depth l.room (levels l.room) l.at (trees l.left))

abbrev pub decreases-predicates : goal.decreases-predicates
decreases-predicates l = l.depth
