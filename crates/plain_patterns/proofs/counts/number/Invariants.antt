use Rattle.std.proofs.Common.{◌≡◌, ◌≤◌, drop}
use Rattle.plain_patterns.specs.Plain.{number, number_after}
use Rattle.plain_patterns.proofs.counts.number.Given as goal

abbrev pub invariant-loop-digit : goal.invariant-loop-digit
invariant-loop-digit l = (l.number ≤ 4294967296) × (number l.digits ≡ number_after l.number (drop l.digit-index l.digits))
