use Rattle.std.proofs.Common.{◌≡◌, drop}
use Rattle.default_reading.specs.Seen.{case_named}
use Rattle.default_reading.proofs.parts.variant_named.Given as goal

abbrev pub invariant-loop-variant : goal.invariant-loop-variant
invariant-loop-variant l = case_named l.name l.variants ≡ case_named l.name (drop l.variant-index l.variants)
