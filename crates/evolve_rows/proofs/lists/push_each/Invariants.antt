use Rattle.std.proofs.Common.{◌≡◌, ◌++◌, drop, map}
use Rattle.evolve_rows.specs.PlaceView.{place_view}
use Rattle.evolve_rows.specs.TurnView.{pairs_view, to_one}
use Rattle.evolve_rows.proofs.lists.push_each.Given as goal

abbrev pub invariant-loop-place : goal.invariant-loop-place
invariant-loop-place l = pairs_view l.pairs.items ++ to_one (map place_view (drop l.place-index l.old)) (place_view l.new) ≡ pairs_view l.fn.pairs.items ++ to_one (map place_view l.old) (place_view l.new)
