use Rattle.std.proofs.Common.{◌≡◌, drop}
use Rattle.module_texts.specs.Helpers.{any_patterns}
use Rattle.module_texts.proofs.helpers.any_asks.Given as goal

abbrev pub invariant-loop-constraint : goal.invariant-loop-constraint
invariant-loop-constraint l = any_patterns l.constraints ≡ any_patterns (drop l.constraint-index l.constraints)
