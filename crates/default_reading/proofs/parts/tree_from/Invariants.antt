use Rattle.std.proofs.Common.{◌≡◌, drop}
use Rattle.default_reading.specs.Seen.{first_tree}
use Rattle.default_reading.proofs.parts.tree_from.Given as goal

abbrev pub invariant-loop-at : goal.invariant-loop-at
invariant-loop-at l = first_tree (drop l.place l.parts) ≡ first_tree (drop l.at l.parts)
