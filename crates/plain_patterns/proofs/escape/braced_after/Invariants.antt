use Rattle.std.proofs.Common.{◌≡◌, ◌≤◌, drop}
use Rattle.plain_patterns.specs.Plain.{braced_after}
use Rattle.plain_patterns.proofs.escape.braced_after.Given as goal

abbrev pub invariant-loop-i : goal.invariant-loop-i
invariant-loop-i l = (l.code ≤ 1114111) × (braced_after 0 l.text ≡ braced_after l.code (drop l.i l.text))
