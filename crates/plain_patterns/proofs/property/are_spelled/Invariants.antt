use Rattle.std.proofs.Common.{◌≡◌, drop, bytes_eq}
use Rattle.plain_patterns.proofs.property.are_spelled.Given as goal

abbrev pub invariant-loop-byte : goal.invariant-loop-byte
invariant-loop-byte l = bytes_eq l.bytes l.fn.text ≡ bytes_eq (drop l.byte-index l.bytes) l.left
