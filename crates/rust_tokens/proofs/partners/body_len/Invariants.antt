use Rattle.std.proofs.Common.{◌-◌, length}
use Rattle.rust_tokens.proofs.Quotes.{Failing}
use Rattle.rust_tokens.proofs.partners.body_len.Given as goal

abbrev pub invariant-loop-at : goal.invariant-loop-at
invariant-loop-at l = Failing l.chars l.at

abbrev pub decreases-loop-at : goal.decreases-loop-at
decreases-loop-at l = length l.chars - l.at
