use Rattle.std.proofs.Common.{◌∙◌, ◌++◌, ap, if◌then◌else◌, [], string_bytes}
use Rattle.module_texts.specs.Helpers.{rules_text, patterns_text}
use Rattle.module_texts.proofs.Parts.{then_more}
use Rattle.module_texts.proofs.helpers.push_helpers.Goals as goal

pub returns : goal.returns
returns c =
    let o = string_bytes c.args.out.now in
    let a = string_bytes c.push_str.new.self in
    let b = string_bytes c.push_if.new.out in
    let k = string_bytes c.push_if-2.new.out in
    let d = string_bytes c.push_str-2.new.self in
    then_more o a d _ _ (c.in_ok-push_str.ensures.bytes) (then_more a b d _ _ (c.in_ok-push_if.ensures ∙ ap (λ h. a ++ (if h then rules_text else [])) c.has_rules.ensures) (then_more b k d _ _ (c.in_ok-push_if-2.ensures ∙ ap (λ h. b ++ (if h then patterns_text else [])) c.any_asks.ensures) (c.in_ok-push_str-2.ensures.bytes)))
