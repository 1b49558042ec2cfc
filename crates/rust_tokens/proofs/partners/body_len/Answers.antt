use Rattle.std.proofs.Common.{◌+◌, ap, sym, ◌∙◌, arith, length}
use Rattle.std.proofs.lemmas.List.{length-drop}
use Rattle.rust_tokens.specs.Front.{unit}
use Rattle.rust_tokens.proofs.Bodies.{rest_from}
use Rattle.rust_tokens.proofs.Quotes.{failing_start, failing_on}
use Rattle.rust_tokens.proofs.partners.body_len.Goals as goal

pub loop-at-init : goal.loop-at-init
loop-at-init c = failing_start c.args.chars.now

pub loop-at-preserved : goal.loop-at-preserved
loop-at-preserved c =
    let at = c.loop-at.at in
    failing_on c.args.chars.now at c.index-chars-at.result c.in-Some.field-0-0 c.in-Some.more c.loop-at-test.true
    (omega (arith, c.in-Some.ensures.within, ap length (rest_from (at + 1) c.args.chars.now), length-drop (at + 1) c.args.chars.now))
    c.index-chars-at.is c.if-first-eq34.false (ap (unit c.index-chars-at.result) (sym (rest_from (at + 1) c.args.chars.now)) ∙ sym c.in-Some.ensures.value) c.loop-at.invariant
