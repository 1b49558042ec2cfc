use Rattle.std.proofs.Common.{◌≡◌, drop}
use Rattle.std.specs.Str.{skip_leading_whitespace}
use Rattle.rust_tokens.proofs.white.skip_white.Given as goal

abbrev pub invariant-loop-i : goal.invariant-loop-i
invariant-loop-i l = skip_leading_whitespace (drop l.i l.chars) ≡ skip_leading_whitespace l.chars
