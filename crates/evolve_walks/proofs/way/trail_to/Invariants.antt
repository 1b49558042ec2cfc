use Rattle.evolve_rows.specs.PlaceView.{table_view}
use Rattle.evolve_rows.specs.TurnView.{pair_view}
use Rattle.evolve_walks.specs.Way.{IsTrail, trail_view}
use Rattle.evolve_walks.proofs.way.trail_to.Given as goal

abbrev pub invariant-loop-number : goal.invariant-loop-number
invariant-loop-number l = IsTrail (table_view l.tables.old) (table_view l.tables.new) (pair_view l.to) (trail_view l.trail)
