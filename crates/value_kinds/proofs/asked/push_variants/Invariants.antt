use Rattle.std.proofs.Common.{◌≡◌, ◌++◌, drop}
use Rattle.value_kinds.proofs.Turns.{places_left}
use Rattle.value_kinds.proofs.asked.push_variants.Given as goal

abbrev pub invariant-loop-variant : goal.invariant-loop-variant
invariant-loop-variant l = l.places.items ++ places_left l.names (drop l.variant-index l.variants) ≡ l.initial.places.items ++ places_left l.names l.variants
