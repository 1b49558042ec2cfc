use Rattle.std.proofs.Common.{◌≡◌, ◌++◌, map}
use Rattle.token_trees.specs.View.{trees}
use Rattle.syntax_trees.specs.View.{lifetime_view}
use Rattle.syntax_parsers.specs.Where.{some_lifetimes}
use Rattle.syntax_parsers.proofs.predicates.read_some_lifetimes.Given as goal

abbrev pub invariant-list : goal.invariant-list
invariant-list l =
    (map lifetime_view l.found.items ++ (some_lifetimes l.depth (trees l.left)).0 ≡ (some_lifetimes l.room (trees l.tokens)).0)
    × ((some_lifetimes l.depth (trees l.left)).1 ≡ (some_lifetimes l.room (trees l.tokens)).1)

abbrev pub decreases-list : goal.decreases-list
decreases-list l = l.depth
