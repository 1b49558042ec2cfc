use Rattle.std.proofs.Common.{◌≡◌, ◌-◌, ◌≤◌, drop, length, string_bytes}
use Rattle.rust_tokens.specs.Front.{body}
use Rattle.rust_tokens.proofs.Bodies.{after_body}
use Rattle.rust_tokens.proofs.front.string_body.Given as goal

abbrev pub invariant-loop-at : goal.invariant-loop-at
invariant-loop-at l =
    (l.at ≤ length l.chars) × (body 0 l.chars ≡ after_body (string_bytes l.value) l.at (body 0 (drop l.at l.chars)))

abbrev pub decreases-loop-at : goal.decreases-loop-at
decreases-loop-at l = length l.chars - l.at
