use Rattle.std.proofs.Common.{◌≡◌, bytes_eq}
use Rattle.schema_types.proofs.Digits.{digits}
use Rattle.schema_types.proofs.place.are_digits.Given as goal

abbrev pub invariant-loop-number : goal.invariant-loop-number
invariant-loop-number l = bytes_eq l.fn.text (digits l.fn.number) ≡ bytes_eq l.left (digits l.number)

abbrev pub decreases-loop-number : goal.decreases-loop-number
decreases-loop-number l = l.number
