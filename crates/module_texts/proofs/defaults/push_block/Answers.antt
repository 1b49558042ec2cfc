use Rattle.std.proofs.Common.{string_bytes}
use Rattle.module_texts.proofs.Parts.{then_more}
use Rattle.module_texts.proofs.defaults.push_block.Goals as goal

pub returns : goal.returns
returns c =
    let o = string_bytes c.args.out.now in
    let a = string_bytes c.push_str.new.self in
    let b = string_bytes c.push_each.new.out in
    let k = string_bytes c.push_str-2.new.self in
    then_more o a k _ _ (c.in_ok-push_str.ensures.bytes) (then_more a b k _ _ (c.in_ok-push_each.ensures) (c.in_ok-push_str-2.ensures.bytes))
