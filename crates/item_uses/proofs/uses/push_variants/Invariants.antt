use Rattle.std.proofs.Common.{◌≡◌, ◌++◌, drop}
use Rattle.value_models.specs.ContainersView.{containers_in}
use Rattle.item_uses.specs.Uses.{item_places}
use Rattle.item_uses.proofs.Gathered.{variants_left}
use Rattle.item_uses.proofs.uses.push_variants.Given as goal

abbrev pub invariant-loop-variant : goal.invariant-loop-variant
invariant-loop-variant l = l.used.items ++ item_places (containers_in l.places.containers.now) (variants_left (drop l.variant-index l.variants)) ≡ l.initial.used.items ++ item_places (containers_in l.places.containers.now) (variants_left l.variants)
