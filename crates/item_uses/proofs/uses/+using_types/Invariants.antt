use Rattle.std.proofs.Common.{◌≡◌, ◌++◌, drop}
use Rattle.value_models.specs.ContainersView.{containers_in}
use Rattle.item_uses.specs.Uses.{item_places}
use Rattle.item_uses.proofs.Gathered.{types_left}
use Rattle.item_uses.proofs.uses.+using_types.Given as goal

abbrev pub invariant-push_types-loop-ty : goal.invariant-push_types-loop-ty
invariant-push_types-loop-ty l = l.used.items ++ item_places (containers_in l.places.containers.now) (types_left (drop l.ty-index l.tys)) ≡ l.initial.used.items ++ item_places (containers_in l.places.containers.now) (types_left l.tys)
