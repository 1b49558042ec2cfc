use Rattle.std.proofs.Common.{◌≡◌, ◌++◌, length}
use Rattle.evolve_rows.specs.TurnView.{pairs_view}
use Rattle.evolve_walks.specs.Walking.{left_view}
use Rattle.evolve_walks.proofs.walk.put_first.Given as goal

abbrev pub invariant-loop-pair : goal.invariant-loop-pair
invariant-loop-pair l = pairs_view l.pairs.items ++ left_view l.left.items ≡ pairs_view l.fn.pairs.items ++ left_view l.fn.left.items

abbrev pub decreases-loop-pair : goal.decreases-loop-pair
decreases-loop-pair l = length l.pairs.items
