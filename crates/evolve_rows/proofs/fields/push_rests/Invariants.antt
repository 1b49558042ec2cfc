use Rattle.std.proofs.Common.{◌≡◌, ◌++◌, drop, map}
use Rattle.evolve_rows.specs.Found.{refs_view, with_rests}
use Rattle.evolve_rows.specs.PlaceView.{place_view}
use Rattle.evolve_rows.specs.TurnView.{pairs_view}
use Rattle.evolve_rows.proofs.fields.push_rests.Given as goal

abbrev pub invariant-loop-rest : goal.invariant-loop-rest
invariant-loop-rest l = pairs_view l.pairs.items ++ with_rests (map place_view l.old) (refs_view (drop l.rest-index l.rests)) ≡ pairs_view l.fn.pairs.items ++ with_rests (map place_view l.old) (refs_view l.rests)
