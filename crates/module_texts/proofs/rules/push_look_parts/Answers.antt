use Rattle.std.proofs.Common.{◌++◌, ◌∙◌, map, refl, ap, string_bytes}
use Rattle.plain_patterns.specs.Ends.{look_seen}
use Rattle.module_texts.specs.Rules.{look_part, look_parts}
use Rattle.module_texts.proofs.Parts.{turn}
use Rattle.module_texts.proofs.rules.push_look_parts.Goals as goal

pub loop-look-preserved : goal.loop-look-preserved
loop-look-preserved c =
    let r = c.look-item.result in
    let o = string_bytes c.loop-look.out in
    turn (λ ys. look_parts (map look_seen ys)) (λ y. look_part (look_seen y)) (λ y ys. refl) c.args.looks.now c.loop-look.look-index r o (string_bytes c.push_look_part.new.out) _ c.loop-look-test.true
    (c.in_ok-push_look_part.ensures ∙ ap (λ y. o ++ look_part (look_seen y)) c.look-item.is) c.loop-look.invariant
