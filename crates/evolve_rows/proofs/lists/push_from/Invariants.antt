use Rattle.std.proofs.Common.{◌≡◌, ◌++◌, drop, map}
use Rattle.evolve_rows.specs.PlaceView.{place_view}
use Rattle.evolve_rows.specs.TurnView.{pairs_view, from_one}
use Rattle.evolve_rows.proofs.lists.push_from.Given as goal

abbrev pub invariant-loop-place : goal.invariant-loop-place
invariant-loop-place l = pairs_view l.pairs.items ++ from_one (place_view l.old) (map place_view (drop l.place-index l.new)) ≡ pairs_view l.fn.pairs.items ++ from_one (place_view l.old) (map place_view l.new)
