use Rattle.std.proofs.Common.{◌≡◌, ◌++◌, drop, map}
use Rattle.evolve_rows.specs.PlaceView.{place_view}
use Rattle.evolve_rows.specs.TurnView.{pairs_view, by_place}
use Rattle.evolve_rows.proofs.lists.push_by_place.Given as goal

abbrev pub invariant-loop-place : goal.invariant-loop-place
invariant-loop-place l = pairs_view l.pairs.items ++ by_place (map place_view (drop l.place l.old)) (map place_view (drop l.place l.new)) ≡ pairs_view l.fn.pairs.items ++ by_place (map place_view l.old) (map place_view l.new)
