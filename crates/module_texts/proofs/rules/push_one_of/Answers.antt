use Rattle.std.proofs.Common.{string_bytes}
use Rattle.module_texts.proofs.Parts.{then_more}
use Rattle.module_texts.proofs.rules.push_one_of.Goals as goal

pub returns : goal.returns
returns c =
    let o = string_bytes c.args.out.now in
    let a = string_bytes c.push_str.new.self in
    let b = string_bytes c.push_own.new.out in
    let k = string_bytes c.push_more.new.out in
    let d = string_bytes c.push_str-2.new.self in
    then_more o a d _ _ (c.in_ok-push_str.ensures.bytes) (then_more a b d _ _ (c.in_ok-push_own.ensures) (then_more b k d _ _ (c.in_ok-push_more.ensures) (c.in_ok-push_str-2.ensures.bytes)))
