use Rattle.std.proofs.Common.{◌≡◌, ℕ, List, drop}
use Rattle.schema_loops.specs.Named.{seen, place_named, number_of_name}
use Rattle.schema_loops.proofs.numbers.Numbers.new.Given as goal

abbrev pub invariant-loop-place : goal.invariant-loop-place
invariant-loop-place l = (n : List ℕ) → number_of_name l.by_name n ≡ place_named n l.place (drop l.place (seen l.targets))
