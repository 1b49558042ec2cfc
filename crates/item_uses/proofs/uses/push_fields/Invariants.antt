use Rattle.std.proofs.Common.{◌≡◌, ◌++◌, drop}
use Rattle.value_models.specs.ContainersView.{containers_in}
use Rattle.item_uses.specs.Uses.{item_places}
use Rattle.item_uses.proofs.Gathered.{fields_left}
use Rattle.item_uses.proofs.uses.push_fields.Given as goal

abbrev pub invariant-loop-field : goal.invariant-loop-field
invariant-loop-field l = l.used.items ++ item_places (containers_in l.places.containers.now) (fields_left (drop l.field-index l.fields)) ≡ l.initial.used.items ++ item_places (containers_in l.places.containers.now) (fields_left l.fields)
