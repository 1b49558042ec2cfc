use Rattle.std.proofs.Common.{◌≡◌, length}
use Rattle.evolve_walks.specs.Walking.{left_view, seen_view, unseen}
use Rattle.evolve_walks.proofs.walk.next_unseen.Given as goal

abbrev pub invariant-loop-pair : goal.invariant-loop-pair
invariant-loop-pair l = unseen (seen_view l.seen) (left_view l.left.items) ≡ unseen (seen_view l.seen) (left_view l.fn.left.items)

abbrev pub decreases-loop-pair : goal.decreases-loop-pair
decreases-loop-pair l = length l.left.items
