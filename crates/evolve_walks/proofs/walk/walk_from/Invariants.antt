use Rattle.evolve_rows.specs.PlaceView.{table_view}
use Rattle.evolve_rows.specs.TurnView.{pair_view}
use Rattle.evolve_walks.specs.Walking.{LeadsTo, left_view, seen_view}
use Rattle.evolve_walks.proofs.walk.walk_from.Given as goal

abbrev pub invariant-loop-round : goal.invariant-loop-round
invariant-loop-round l = LeadsTo (table_view l.tables.old) (table_view l.tables.new) (pair_view l.start) (seen_view l.seen) (left_view l.left.items)
