use Rattle.std.proofs.Common.{◌≡◌, drop}
use Rattle.model_describe.proofs.Lengths.{all_sizes}
use Rattle.model_describe.proofs.sizes.rules_have_sizes.Given as goal

abbrev pub invariant-loop-constraint : goal.invariant-loop-constraint
invariant-loop-constraint l = all_sizes (drop l.constraint-index l.constraints) ≡ all_sizes l.constraints
