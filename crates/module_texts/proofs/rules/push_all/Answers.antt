use Rattle.std.proofs.Common.{◌++◌, ◌∙◌, map, refl, ap, string_bytes}
use Rattle.module_texts.specs.Rules.{has_lines, search_lines, searched}
use Rattle.module_texts.proofs.Parts.{turn}
use Rattle.module_texts.proofs.rules.push_all.Goals as goal

pub loop-pattern-preserved : goal.loop-pattern-preserved
loop-pattern-preserved c =
    let r = c.pattern-item.result in
    let o = string_bytes c.loop-pattern.out in
    turn (λ ys. has_lines (map string_bytes ys)) (λ y. search_lines (searched (string_bytes y))) (λ y ys. refl) c.args.patterns.now c.loop-pattern.pattern-index r o (string_bytes c.push_has.new.out) _ c.loop-pattern-test.true
    (c.in_ok-push_has.ensures ∙ (λ j. o ++ search_lines (searched (c.deref.ensures j))) ∙ ap (λ y. o ++ search_lines (searched (string_bytes y))) c.pattern-item.is) c.loop-pattern.invariant
