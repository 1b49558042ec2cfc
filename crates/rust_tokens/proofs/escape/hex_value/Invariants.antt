use Rattle.std.proofs.Common.{◌≡◌, ◌+◌, ◌*◌, ◌^◌, ◌≤◌, drop}
use Rattle.rust_tokens.specs.Front.{hex_value}
use Rattle.rust_tokens.proofs.escape.hex_value.Given as goal

abbrev pub invariant-loop-digit : goal.invariant-loop-digit
invariant-loop-digit l =
    (hex_value l.value (drop l.digit-index l.digits) ≡ hex_value 0 l.digits) × (l.value + 3 ≤ 3 * 16 ^ l.digit-index)
