use Rattle.std.proofs.Common.{◌≡◌, ◌≤◌, ◌-◌, ◌++◌, take, drop}
use Rattle.whole_numbers.specs.Whole.{whole}
use Rattle.whole_numbers.proofs.Segments.{rest}
use Rattle.whole_numbers.proofs.whole_numbers.Given as goal

abbrev pub invariant-loop-i : goal.invariant-loop-i
invariant-loop-i l = (l.start ≤ l.i) × (whole l.bytes ≡ l.done.items ++ rest (take (l.i - l.start) (drop l.start l.bytes)) l.place (drop l.i l.bytes))
