use Rattle.std.proofs.Common.{◌≡◌, ◌+◌, drop}
use Rattle.rust_tokens.specs.Front.{name_len}
use Rattle.rust_tokens.proofs.name.name_len.Given as goal

abbrev pub invariant-loop-i : goal.invariant-loop-i
invariant-loop-i l = l.i + name_len (drop l.i l.chars) ≡ name_len l.chars
