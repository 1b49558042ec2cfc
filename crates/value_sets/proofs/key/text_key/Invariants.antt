use Rattle.std.proofs.Common.{◌≡◌, drop}
use Rattle.value_sets.specs.Key.{text_key}
use Rattle.value_sets.proofs.key.text_key.Given as goal

abbrev pub invariant-loop-byte : goal.invariant-loop-byte
invariant-loop-byte l = text_key l.key (drop l.byte-index l.byte-items) ≡ text_key l.before l.text
