use Rattle.std.proofs.Common.{◌≡◌, ◌++◌, drop, map}
use Rattle.evolve_rows.specs.Found.{refs_view, written_spots}
use Rattle.evolve_rows.specs.PlaceView.{place_view}
use Rattle.evolve_rows.proofs.fields.written_places.Given as goal

abbrev pub invariant-loop-field : goal.invariant-loop-field
invariant-loop-field l = map place_view l.places.items ++ written_spots (refs_view (drop l.field-index l.fields)) ≡ written_spots (refs_view l.fields)
