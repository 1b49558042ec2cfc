use Rattle.std.proofs.Common.{◌≡◌, ◌+◌, drop}
use Rattle.rust_tokens.specs.Front.{hex_len}
use Rattle.rust_tokens.proofs.escape.hex_len.Given as goal

abbrev pub invariant-loop-i : goal.invariant-loop-i
invariant-loop-i l = l.i + hex_len (drop l.i l.chars) ≡ hex_len l.chars
