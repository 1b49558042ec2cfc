use Rattle.std.proofs.Common.{◌≡◌, ◌++◌, drop, map}
use Rattle.value_models.specs.TypeView.{types_view}
use Rattle.evolve_rows.specs.PlaceView.{place_view}
use Rattle.evolve_rows.specs.TurnView.{spots_of}
use Rattle.evolve_rows.proofs.lists.item_places.Given as goal

abbrev pub invariant-loop-ty : goal.invariant-loop-ty
invariant-loop-ty l = map place_view l.places.items ++ spots_of (types_view (drop l.ty-index l.types)) ≡ spots_of (types_view l.types)
