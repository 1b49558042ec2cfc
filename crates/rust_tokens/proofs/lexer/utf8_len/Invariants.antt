use Rattle.std.proofs.Common.{◌≡◌, ◌+◌, drop, length, encode_utf8_all}
use Rattle.rust_tokens.proofs.lexer.utf8_len.Given as goal

abbrev pub invariant-loop-ch : goal.invariant-loop-ch
invariant-loop-ch l = l.total + length (encode_utf8_all (drop l.ch-index l.chars)) ≡ length (encode_utf8_all l.chars)
