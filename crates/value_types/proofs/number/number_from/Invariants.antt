use Rattle.std.proofs.Common.{◌≡◌, drop}
use Rattle.type_spellings.specs.Types.{number_from}
use Rattle.value_types.proofs.number.number_from.Given as goal

abbrev pub invariant-loop-byte : goal.invariant-loop-byte
invariant-loop-byte l = number_from l.number (drop l.byte-index l.bytes) ≡ number_from 0 l.bytes
