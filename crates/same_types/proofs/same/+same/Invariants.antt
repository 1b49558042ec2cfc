use Rattle.std.proofs.Common.{◌≡◌, drop}
use Rattle.same_types.proofs.Parts.{same_parts}
use Rattle.same_types.proofs.same.+same.Given as goal

abbrev pub invariant-are_same-loop-i : goal.invariant-are_same-loop-i
invariant-are_same-loop-i l = same_parts (drop l.i l.a) (drop l.i l.b) ≡ same_parts l.a l.b
