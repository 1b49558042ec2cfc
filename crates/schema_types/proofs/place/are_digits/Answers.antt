use Rattle.std.proofs.Common.{◌≡◌, ◌≢◌, ◌+◌, ◌%◌, ◌∙◌, sym, arith}
use Rattle.schema_types.proofs.Digits.{ends_alike, ends_otherwise}
use Rattle.schema_types.proofs.place.are_digits.Goals as goal

pub returns-then-last-number : goal.returns-then-last-number
returns-then-last-number c =
    let other : c.in-Some.last.now ≢ 48 + c.loop-number.number % 10 = omega arith in
    sym (c.loop-number.invariant ∙ ends_otherwise c.loop-number.left.now c.in-Some.front.now c.in-Some.last.now c.loop-number.number (omega arith) c.in-Some.ensures.cases.0 other)

pub loop-number-preserved : goal.loop-number-preserved
loop-number-preserved c =
    let same : c.in-Some.last.now ≡ 48 + c.loop-number.number % 10 = omega arith in
    c.loop-number.invariant ∙ ends_alike c.loop-number.left.now c.in-Some.front.now c.in-Some.last.now c.loop-number.number (omega arith) c.in-Some.ensures.cases.0 same
