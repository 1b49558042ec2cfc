use Rattle.std.proofs.Common.{◌≡◌, ◌++◌, drop, map}
use Rattle.value_models.specs.FieldView.{fields_view}
use Rattle.evolve_rows.specs.PlaceView.{place_view}
use Rattle.evolve_rows.specs.TurnView.{spots_of}
use Rattle.evolve_rows.proofs.lists.field_places.Given as goal

abbrev pub invariant-loop-field : goal.invariant-loop-field
invariant-loop-field l = map place_view l.places.items ++ spots_of (map (λ f. f.field_type) (fields_view (drop l.field-index l.fields))) ≡ spots_of (map (λ f. f.field_type) (fields_view l.fields))
