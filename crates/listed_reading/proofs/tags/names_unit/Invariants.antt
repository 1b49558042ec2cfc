use Rattle.std.proofs.Common.{◌≡◌, drop}
use Rattle.listed_reading.proofs.Variants.{unit_in}
use Rattle.listed_reading.proofs.tags.names_unit.Given as goal

abbrev pub invariant-loop-variant : goal.invariant-loop-variant
invariant-loop-variant l = unit_in l.text l.variants.items ≡ unit_in l.text (drop l.variant-index l.variants.items)
