use Rattle.std.proofs.Common.{◌≡◌, ◌++◌, drop, map}
use Rattle.evolve_rows.specs.Found.{refs_view, rest_spots}
use Rattle.evolve_rows.specs.PlaceView.{place_view}
use Rattle.evolve_rows.proofs.fields.rest_places.Given as goal

abbrev pub invariant-loop-field : goal.invariant-loop-field
invariant-loop-field l = map place_view l.places.items ++ rest_spots (refs_view (drop l.field-index l.fields)) ≡ rest_spots (refs_view l.fields)
