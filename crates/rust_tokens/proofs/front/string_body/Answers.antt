use Rattle.std.proofs.Common.{◌+◌, ap, sym, ◌∙◌, arith, drop, length, string_bytes}
use Rattle.std.proofs.lemmas.List.{length-drop}
use Rattle.rust_tokens.specs.Front.{body, unit}
use Rattle.rust_tokens.proofs.Bodies.{after_body, body_unit_at, rest_from}
use Rattle.rust_tokens.proofs.front.string_body.Goals as goal

pub loop-at-preserved : goal.loop-at-preserved
loop-at-preserved c =
    let at = c.loop-at.at in
    let past = at + c.in-Some.more + 1 in
    let read = body_unit_at c.args.chars.now at c.index-chars-at.result c.in-Some.ch c.in-Some.more (string_bytes c.loop-at.value)
    c.loop-at-test.true c.index-chars-at.is c.if-first-eq34.false (ap (unit c.index-chars-at.result) (sym (rest_from (at + 1) c.args.chars.now)) ∙ sym c.in-Some.ensures.value) c.loop-at.invariant.1 in
    (omega (arith, c.in-Some.ensures.within, ap length (rest_from (at + 1) c.args.chars.now), length-drop (at + 1) c.args.chars.now), read ∙ ap (λ v. after_body v past (body 0 (drop past c.args.chars.now))) (sym c.in_ok-push-in-Some.ensures.bytes))
