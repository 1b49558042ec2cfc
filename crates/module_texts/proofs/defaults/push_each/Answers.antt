use Rattle.std.proofs.Common.{◌++◌, ◌∙◌, ap, string_bytes}
use Rattle.serde_json.specs.View.{view}
use Rattle.serde_json.specs.declared.value.Value.{Value}
use Rattle.module_texts.specs.Defaults.{default_text}
use Rattle.module_texts.proofs.Parts.{default_turn}
use Rattle.module_texts.proofs.defaults.push_each.Goals as goal

pub loop-number-preserved : goal.loop-number-preserved
loop-number-preserved c =
    let n = c.loop-number.number in
    let r = c.index-values-number.result in
    let o = string_bytes c.loop-number.out in
    default_turn view c.args.values.now n r o (string_bytes c.push_default.new.out) _ c.loop-number-test.true
    (c.in_ok-push_default.ensures ∙ ap (λ (v : Value). o ++ default_text n (view v)) c.index-values-number.is) c.loop-number.invariant
